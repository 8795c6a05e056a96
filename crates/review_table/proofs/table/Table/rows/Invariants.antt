use Rattle.std.proofs.Common.{◌≡◌, ◌++◌, map}
use Rattle.{std.specs.Map.Iter.deref_pair, review_table.specs.Rows.rows_of}
use Rattle.review_table.proofs.table.Table.rows.Given as goal

abbrev pub invariant-loop-key : goal.invariant-loop-key
invariant-loop-key g l = map deref_pair l.rows.items ++ rows_of l.key-iterator ≡ rows_of l.self
