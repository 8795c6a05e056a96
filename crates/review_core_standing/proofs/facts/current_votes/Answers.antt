use Rattle.std.proofs.Common.{◌∙◌, None, ap, map}
use Rattle.{std.specs.List.filter, std.specs.Map.Iter.deref_pair, review_core_rules.specs.Seen.vote_cmp}
use Rattle.review_core_tables.{proofs.Copied.vote_key, specs.Tables.put_in}
use Rattle.review_core_standing.{proofs.Made.votes_made, specs.inner.Made.is_voted}
use Rattle.review_core_standing.proofs.facts.current_votes.Goals as goal

pub returns : goal.returns
returns c =
    let rows = ap (map deref_pair) c.deref.ensures.value ∙ c.in_ok-rows.ensures.rows in
    votes_made c.args.current c.args.votes.now c.in_ok-votes.votes c.rows.ensures.sorted c.in_ok-votes.ensures.ordered
    (λ l a. c.in_ok-votes.ensures.votes l a ∙ ap (λ rs. put_in vote_cmp (filter is_voted rs) (vote_key c.args.current l a) None) rows)
