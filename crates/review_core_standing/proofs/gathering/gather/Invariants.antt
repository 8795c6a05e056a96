use Rattle.std.proofs.Common.{◌≡◌, drop, length, map}
use Rattle.review_core_rules.specs.Threads.{threads}
use Rattle.review_core_standing.{proofs.InThreads.gathered, specs.inner.Gathered.thread_so_far}
use Rattle.review_core_standing.proofs.gathering.gather.Given as goal

abbrev pub invariant-loop-comment : goal.invariant-loop-comment
invariant-loop-comment l = record {
  rest : gathered l.places.items (map thread_so_far l.gathered.items) (drop l.comment-index l.comments) ≡ threads l.comments;
  many : length l.places.items ≡ l.comment-index;
}
