use Rattle.std.{proofs.Common.◌≡◌, proofs.Common.map, specs.Map.Iter.deref_pair}
use Rattle.review_machine_change_rows.proofs.copies.copied_rows.Given as goal

abbrev pub invariant-loop-key : goal.invariant-loop-key
invariant-loop-key g l = l.copies.items ≡ map deref_pair l.yielded
