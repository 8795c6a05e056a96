use Rattle.std.proofs.Common.{◌≡◌, ◌&&◌, ◌==◌, drop}
use Rattle.{std.specs.List.list_any, review_core_rules.specs.Change.answers_thread}
use Rattle.review_core_tables.proofs.rules.wrote_in_answered.Given as goal

abbrev pub invariant-loop-post : goal.invariant-loop-post
invariant-loop-post l =
    list_any (λ x. (x.author == l.account) && answers_thread l.stored l.new x.root) (drop l.post-index l.stored)
    ≡ list_any (λ x. (x.author == l.account) && answers_thread l.stored l.new x.root) l.stored
