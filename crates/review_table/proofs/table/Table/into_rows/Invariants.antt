use Rattle.{std.proofs.Common.◌≡◌, std.proofs.Common.◌++◌, review_table.specs.Rows.rows_of}
use Rattle.review_table.proofs.table.Table.into_rows.Given as goal

abbrev pub invariant-loop-key : goal.invariant-loop-key
invariant-loop-key g l = l.rows.items ++ rows_of l.key-iterator ≡ rows_of l.fn.self
