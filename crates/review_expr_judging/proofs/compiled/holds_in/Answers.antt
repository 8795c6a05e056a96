use Rattle.std.proofs.Common.{rules, ◌≡◌, ◌≤◌, ◌∷◌, [], length, take, get_or, refl}
use Rattle.review_expr_judging.proofs.Flat.{first_is, leads_list, none_left, there_is}
use Rattle.review_expr_judging.specs.Holds.{holds}
use Rattle.review_expr_judging.proofs.compiled.holds_in.Goals as goal

pub returns-in-Some : goal.returns-in-Some
returns-in-Some g c = λ t is.
    let h = g.W.Judged.is_held c.args.facts.now in
    let past : length c.args.steps.now ≤ c.loop-step.step-index = search rules in
    let one : take c.loop-step.top c.loop-step.room ≡ holds h t ∷ [] = none_left h c.args.steps.now c.loop-step.step-index (take c.loop-step.top c.loop-step.room) (holds h t) past
    (c.loop-step.invariant.leads (holds h t) (leads_list h t [] c.args.steps.now c.args.steps.now refl refl is)) in
    let first : get_or c.loop-step.room 0 c.in-Some.holds.now ≡ holds h t = first_is c.loop-step.top c.loop-step.room (holds h t) c.in-Some.holds.now one in
    search rules

pub returns-in-None : goal.returns-in-None
returns-in-None g c = λ t is.
    let h = g.W.Judged.is_held c.args.facts.now in
    let past : length c.args.steps.now ≤ c.loop-step.step-index = search rules in
    let one : take c.loop-step.top c.loop-step.room ≡ holds h t ∷ [] = none_left h c.args.steps.now c.loop-step.step-index (take c.loop-step.top c.loop-step.room) (holds h t) past
    (c.loop-step.invariant.leads (holds h t) (leads_list h t [] c.args.steps.now c.args.steps.now refl refl is)) in
    let none : c.loop-step.room ≡ [] = search rules in
    absurd (there_is c.loop-step.top c.loop-step.room (holds h t) one none)
