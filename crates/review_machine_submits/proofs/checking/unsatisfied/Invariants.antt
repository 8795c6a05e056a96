use Rattle.{std.proofs.Common.◌≡◌, std.proofs.Common.drop, review_core_rules.specs.Facts.unsatisfied_in}
use Rattle.review_machine_submits.proofs.checking.unsatisfied.Given as goal

abbrev pub invariant-loop-requirement : goal.invariant-loop-requirement
invariant-loop-requirement l = unsatisfied_in (drop l.requirement-index l.shown) ≡ unsatisfied_in l.shown
