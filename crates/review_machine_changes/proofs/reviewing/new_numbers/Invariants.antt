use Rattle.{std.proofs.Common.◌≡◌, review_machine_changes.specs.inner.Done.next_numbers}
use Rattle.review_machine_changes.proofs.reviewing.new_numbers.Given as goal

abbrev pub invariant-loop-index : goal.invariant-loop-index
invariant-loop-index l = l.numbers.items ≡ next_numbers l.stored l.index
