use Rattle.std.proofs.Common.{◌≡◌, vec_len}
use Rattle.review_table.specs.Rows.{changed, row_in, rows_of}
use Rattle.review_memory_rows.proofs.edits.change_all.Given as goal

-- the changes that are left make of the table what all of them make of the first one
abbrev pub invariant-loop-change : goal.invariant-loop-change
invariant-loop-change g l =
    (q : _) → changed g.K.Ord.cmp l.left.items q (row_in g.K.Ord.cmp (rows_of l.table) q) ≡ changed g.K.Ord.cmp l.fn.changes.items q (row_in g.K.Ord.cmp (rows_of l.fn.table) q)

abbrev pub decreases-loop-change : goal.decreases-loop-change
decreases-loop-change g l = vec_len l.left
