use Rattle.std.proofs.Common.{◌∙◌, ap, map}
use Rattle.{std.specs.List.filter, std.specs.Map.Iter.deref_pair, review_core_rules.specs.Shown.shown_vote}
use Rattle.review_machine_submits.{proofs.Loaded.votes_shown, specs.inner.Told.is_on}
use Rattle.review_machine_submits.proofs.showing.current_votes.Goals as goal

pub returns : goal.returns
returns c =
    let a = c.args in
    let rows = ap (map deref_pair) c.deref.ensures.value ∙ c.in_ok-votes.ensures.rows in
    votes_shown a.rows.now a.patch c.from_vec.result c.requires c.rows.ensures.sorted (c.from_vec.ensures ∙ (c.in_ok-shown.ensures ∙ ap (λ rs. map shown_vote (filter (is_on a.patch) rs)) rows))
