use Rattle.{review_table.specs.Rows.rows_of, review_memory_rows.proofs.Turned.ArePreparedSoFar}
use Rattle.review_memory_rows.proofs.kept.KeptChanges.prepare.Given as goal

abbrev pub invariant-loop-edit : goal.invariant-loop-edit
invariant-loop-edit l = ArePreparedSoFar (rows_of l.self.kept) l.fn.edits.items l.edit-iterator.rest.items l.begun.items l.renewed.items
