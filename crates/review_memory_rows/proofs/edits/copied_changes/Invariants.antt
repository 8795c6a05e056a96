use Rattle.std.proofs.Common.{◌≡◌, take}
use Rattle.review_memory_rows.proofs.edits.copied_changes.Given as goal

abbrev pub invariant-loop-change : goal.invariant-loop-change
invariant-loop-change g l = l.copies.items ≡ take l.change-index l.changes
