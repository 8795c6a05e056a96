use Rattle.{std.proofs.Common.◌≡◌, std.proofs.Common.length, review_table.specs.Rows.rows_of}
use Rattle.review_table.proofs.table.Table.last_key.Given as goal

abbrev pub invariant-loop-key : goal.invariant-loop-key
invariant-loop-key g l = rows_of l.left ≡ rows_of l.self

abbrev pub decreases-loop-key : goal.decreases-loop-key
decreases-loop-key g l = length l.left
