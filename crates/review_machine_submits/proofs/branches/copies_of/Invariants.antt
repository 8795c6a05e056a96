use Rattle.std.proofs.Common.{◌≡◌, ◌++◌, drop}
use Rattle.review_machine_submits.proofs.branches.copies_of.Given as goal

abbrev pub invariant-loop-one : goal.invariant-loop-one
invariant-loop-one l = l.joined.items ++ drop l.one-index l.known ≡ l.known
