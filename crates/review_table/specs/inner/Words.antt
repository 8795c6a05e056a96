-- Words that only proofs and private clauses use.
use Rattle.{std.specs.Prelude.Option, std.specs.Prelude.Some, review_table.specs.declared.table.RowEdit.RowEdit}

-- the place of a row
abbrev pub place_of : {K X : Type 0} → K × X → K × Option X
place_of e = (e.0, Some e.1)

-- the place of a key as an edit
abbrev pub as_edit : {K X : Type 0} → K × Option X → RowEdit K X
as_edit e = record { key = e.0; row = e.1 }
