-- A table with edits beside it.
use Rattle.std.specs.{Prelude.Option, declared.cmp.Ordering.Ordering}
use Rattle.review_table.specs.Rows.{after_row_edit, place_at, row_in, rows_of}
use Rattle.review_table.specs.declared.edited.Edited.{Edited}

-- the row that a key has once the edits are made
abbrev pub edited_row : {K X : Type 0} → (K → K → Ordering) → Edited K X → K → Option X
edited_row cmp e q = after_row_edit (place_at cmp e.edits.entries q) (row_in cmp (rows_of e.rows.now) q)
