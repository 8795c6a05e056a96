use Rattle.std.proofs.Common.{◌≡◌, ◌++◌, map}
use Rattle.review_core_standing.specs.inner.Gathered.{thread_so_far}
use Rattle.review_core_standing.proofs.gathering.finished.Given as goal

abbrev pub invariant-loop-one : goal.invariant-loop-one
invariant-loop-one l = l.threads.items ++ map thread_so_far l.one-iterator.rest.items ≡ map thread_so_far l.fn.gathered.items
