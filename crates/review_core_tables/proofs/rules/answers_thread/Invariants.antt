use Rattle.{std.proofs.Common.◌≡◌, std.proofs.Common.drop, review_core_rules.specs.Change.answers_thread}
use Rattle.review_core_tables.proofs.rules.answers_thread.Given as goal

abbrev pub invariant-loop-comment : goal.invariant-loop-comment
invariant-loop-comment l = answers_thread l.stored (drop l.comment-index l.new) l.root ≡ answers_thread l.stored l.new l.root
