use Rattle.std.proofs.Common.{◌≡◌, ◌++◌, ◌+◌, length}
use Rattle.review_machine_change_rows.specs.Edits.{puts_after}
use Rattle.review_machine_change_rows.proofs.edits.more_patches.Given as goal

-- the edits so far and those of the rows that are left are all
abbrev pub invariant-loop-patch : goal.invariant-loop-patch
invariant-loop-patch l = l.edits.items ++ puts_after (l.before + length l.edits.items) l.patch-iterator.rest.items ≡ puts_after l.before l.fn.patches.items
