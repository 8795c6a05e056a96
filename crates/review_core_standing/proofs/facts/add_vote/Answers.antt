use Rattle.std.proofs.Common.{◌∙◌, ◌==◌, Some, cond, w8}
use Rattle.{std.proofs.lemmas.Int.to_z-of_z, std.specs.Ordering.nat_cmp, review_table.specs.Rows.row_in}
use Rattle.review_core_standing.proofs.Made.{still_ordered, vote_added}
use Rattle.review_core_standing.proofs.facts.add_vote.Goals as goal

pub returns-clause-vote : goal.returns-clause-vote
returns-clause-vote c =
    let a = c.args in
    let value = to_z-of_z w8 a.value c.ranges.value in
    vote_added a.votes.now c.taken-on.new.votes c.insert.new.self c.in_ok-on.on a.label a.account a.value c.taken-on.ensures.others c.in_ok-insert.ensures.updates.0
    (λ u. c.in_ok-on.ensures.vote u ∙ (λ i. cond (a.account == u) (Some (value i)) (row_in nat_cmp (c.taken-on.ensures.on i) u)))

pub returns-clause-ordered : goal.returns-clause-ordered
returns-clause-ordered c = λ before.
    still_ordered c.args.votes.now c.taken-on.new.votes c.insert.new.self c.in_ok-on.on c.args.label c.taken-on.ensures.others c.in_ok-insert.ensures.updates.0 c.in_ok-on.ensures.ordered before
