use Rattle.std.proofs.Common.{◌≡◌, ◌++◌, drop, map}
use Rattle.review_core_rules.specs.Change.{stored_as}
use Rattle.review_core_tables.proofs.comments.store_all.Given as goal

abbrev pub invariant-loop-comment : goal.invariant-loop-comment
invariant-loop-comment l =
    l.rows.items ++ map (stored_as l.stored l.origin.patch l.origin.author l.origin.request) (drop l.comment-index l.new)
    ≡ l.fn.rows.items ++ map (stored_as l.stored l.origin.patch l.origin.author l.origin.request) l.new
