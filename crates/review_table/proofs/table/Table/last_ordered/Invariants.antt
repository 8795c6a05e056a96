use Rattle.std.proofs.Common.{◌≡◌, length}
use Rattle.review_table.{proofs.Lasts.between, specs.Rows.rows_of}
use Rattle.review_table.proofs.table.Table.last_ordered.Given as goal

abbrev pub invariant-loop-key : goal.invariant-loop-key
invariant-loop-key g l = rows_of l.left ≡ between g.K.Ord.cmp l.fn.from l.fn.to (rows_of l.self)

abbrev pub decreases-loop-key : goal.decreases-loop-key
decreases-loop-key g l = length l.left
