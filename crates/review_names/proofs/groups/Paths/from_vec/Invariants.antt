use Rattle.std.proofs.Common.{◌≡◌}
use Rattle.review_names.proofs.groups.Paths.from_vec.Given as goal

abbrev pub invariant-loop-path : goal.invariant-loop-path
invariant-loop-path l = l.sorted.items ≡ l.yielded
