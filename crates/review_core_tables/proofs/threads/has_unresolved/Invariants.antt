use Rattle.{std.proofs.Common.◌≡◌, std.proofs.Common.length, review_core_rules.specs.Change.has_unresolved}
use Rattle.review_core_tables.proofs.threads.has_unresolved.Given as goal

abbrev pub invariant-loop-rest : goal.invariant-loop-rest
invariant-loop-rest l = has_unresolved l.rest ≡ has_unresolved l.posts

abbrev pub decreases-loop-rest : goal.decreases-loop-rest
decreases-loop-rest l = length l.rest
