use Rattle.std.proofs.Common.{◌≡◌}
use Rattle.review_names.proofs.names.Members.from_vec.Given as goal

abbrev pub invariant-loop-account : goal.invariant-loop-account
invariant-loop-account l = l.sorted.items ≡ l.yielded
