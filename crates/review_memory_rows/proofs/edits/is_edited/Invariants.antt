use Rattle.std.proofs.Common.{◌≡◌, drop, is_some, nat_cmp}
use Rattle.review_table.specs.Rows.{row_in}
use Rattle.review_memory_rows.proofs.edits.is_edited.Given as goal

-- none so far names it
abbrev pub invariant-loop-edited : goal.invariant-loop-edited
invariant-loop-edited l = is_some (row_in nat_cmp (drop l.edited-index l.changes) l.number) ≡ is_some (row_in nat_cmp l.changes l.number)
