use Rattle.{std.proofs.Common.drop, std.specs.List.AllByRecursion, review_words.specs.Texts.IsChangeNumber}
use Rattle.review_machine_submits.proofs.submitting.are_numbers.Given as goal

-- where those that are left have numbers of their form, all have
abbrev pub invariant-loop-change : goal.invariant-loop-change
invariant-loop-change l = AllByRecursion IsChangeNumber (drop l.change-index l.changes) → AllByRecursion IsChangeNumber l.changes
