-- What the texts of a table of records mean.
use Rattle.std.specs.Prelude.{◌≤◌, length, ℕ, List, ◌≡◌}
use Rattle.sqlite.specs.Effect.{Database}
use Rattle.review_sql_tables.specs.{Ran.IsReady, Search.Search, Search.rows_at, Search.Form, Search.IsLawful}
use Rattle.review_sql_tables.specs.Texts.{Deletes, Inserts}
use Rattle.review_sql_tables.specs.declared.table.Sets.{Sets, TheVariants.PutsIn}

-- at a key a table of a desk has one row, at most
abbrev pub IsSingle : {A X : Type 0} → Search A X → Type 0
IsSingle {A} s = (db : Database) → IsReady db → (key : A) → length (rows_at (s.at key) (db.trees s.tree)) ≤ 1

-- how a record is given to a key, and the texts that put one in and take those of a key away
pub record Written : Type 0 where
  pub sets : Sets
  pub insert : List ℕ
  pub delete : List ℕ

-- A table of records: how they are written, looked up by their keys, and stored. The texts put records in and take them away, records have one key and read as what was put in, and no two have one key where they are put in whatever is there.
pub record Records (A X : Type 0) : Type 0 where
  pub writes : Written
  pub search : Search A X
  pub form : Form A X
  pub inserts : (key : A) (row : X) → Inserts writes.insert search.tree (form.values key row) (form.stored key row)
  pub deletes : (key : A) → Deletes writes.delete search.tree (search.at key)
  pub keeps : IsLawful search form
  pub single : writes.sets ≡ PutsIn → IsSingle search
