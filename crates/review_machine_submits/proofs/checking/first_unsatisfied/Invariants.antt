use Rattle.std.proofs.Common.{Option, ℕ, List, drop}
use Rattle.{std.specs.List.AllByRecursion, review_core_rules.specs.Facts.IsFirstUnsatisfied}
use Rattle.review_machine_submits.specs.Submits.{IsThere, judged_in}
use Rattle.review_machine_submits.proofs.checking.first_unsatisfied.Given as goal

-- what is found first of the rest is found first of all
abbrev pub invariant-loop-change : goal.invariant-loop-change
invariant-loop-change l = record {
  there : AllByRecursion (IsThere l.rows) (drop l.change-index l.chain);
  found : (found : Option (ℕ × List ℕ)) → IsFirstUnsatisfied (judged_in l.file l.rows) (drop l.change-index l.chain) found → IsFirstUnsatisfied (judged_in l.file l.rows) l.chain found;
}
