use Rattle.std.proofs.Common.{◌≡◌, drop}
use Rattle.review_core_rules.specs.Change.{posts, threaded}
use Rattle.review_core_tables.proofs.threads.posts.Given as goal

abbrev pub invariant-loop-comment : goal.invariant-loop-comment
invariant-loop-comment l = threaded l.posts.items (drop l.comment-index l.comments) ≡ posts l.comments
