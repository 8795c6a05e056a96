-- The versions of the tables: how the tables of each are made, and how rows move to those of the next.
use Rattle.std.specs.List.{AllByRecursion, list_any, Sorted.IsPermutation}
use Rattle.std.specs.Prelude.{ℕ, ◌≡◌, false, Ok, List, [], drop, map, ◌∷◌, pos, ◌==◌, Bool, ◌≢◌}
use Rattle.sqlite.proofs.Callers.{command_of, statement_of}
use Rattle.sqlite.specs.{Does.lacks_sequence, Effect.Database, Effect.IsDatabase, Given.IsPlain, Listing.understood}
use Rattle.sqlite_catalog.specs.Change.{created, next_tree, KeepsRows}
use Rattle.sqlite_resolve.specs.Compile.{table_defined_by}
use Rattle.sqlite_rules.specs.Cast.{as_text, cast}
use Rattle.sqlite_schema.specs.declared.command.Command.TheVariants.{CreateTable}
use Rattle.sqlite_schema.specs.declared.schema.{Kind.TheVariants.Integer, Schema.Schema, Table.Table}
use Rattle.{sqlite_trees.specs.Tree.Trees, sqlite_value.specs.Order.Row, sqlite_value.specs.Order.column}
use Rattle.sqlite_value.specs.declared.value.Value.TheVariants.{Text, Int}
use Rattle.review_sql_tables.specs.Content.{AreApart}
use Rattle.review_sql_tables.specs.Desk.{projects_1, projects_2, tables_1, tables_2, accounts, answers_3, attention, bases, changes, comments, desk, members, patches, reviewers, votes, answers_1, desk_schema, epochs, schema_1, schema_2, schema_of, desk_tables}
use Rattle.review_sql_tables.specs.declared.versions.{EarlierVersion.EarlierVersion, TablesVersion.TablesVersion}
use Rattle.review_sql_tables.specs.declared.versions.TablesVersion.TheVariants.{First, Second, Third}
use Rattle.review_sql_tables.specs.declared.versions.EarlierVersion.TheVariants as earlier

-- ---- tables that are made one after the other

-- a text makes this table, and this schema of that one
pub record MakesText (sql : List ℕ) (schema : Schema) (table : Table) (after : Schema) : Type 0 where
  pub command : command_of (understood schema sql) ≡ CreateTable
  pub text : statement_of sql (understood schema sql) ≡ sql
  pub plain : IsPlain (understood schema sql)
  pub defines : table_defined_by sql ≡ Ok (record table { tree = 0 })
  pub uncounted : lacks_sequence (created schema (record table { tree = 0 })) ≡ false
  pub leaves : created schema (record table { tree = 0 }) ≡ after

-- the tables are these, and empty
pub record IsBlank (schema : Schema) (db : Database) : Type 0 where
  pub schema_is : db.schema ≡ schema
  pub empty : AllByRecursion (λ t. db.trees t.tree ≡ []) schema.tables

-- of this schema that is made: the new table is empty, the others keep their rows, and the whole is a database
pub record IsMade (schema after : Schema) (old new : Database) : Type 0 where
  pub schema_is : new.schema ≡ after
  pub empty : new.trees (next_tree schema) ≡ []
  pub others : KeepsRows schema.tables old.trees new.trees
  pub sound : IsDatabase new

-- one empty table comes to others
abbrev pub MakesBy : List ℕ → Database → Database → Type 0
MakesBy sql old new = (schema : Schema) (table : Table) (after : Schema) → MakesText sql schema table after → old.schema ≡ schema → IsMade schema after old new

-- of these empty tables those are made, which are a database
abbrev pub Grows : Schema → Schema → Database → Database → Type 0
Grows before after old new = IsBlank before old → IsBlank after new × IsDatabase new

-- ---- rows that move from one table to another

-- the columns of a row, behind its rowid
abbrev pub columns_of : Row → Row
columns_of r = drop 1 r

-- for each row of an old table there is one with these columns, and no more, in any order and with any rowids
abbrev pub AreMoved : (Row → Row) → List Row → List Row → Type 0
AreMoved made old new = IsPermutation (map made old) (map columns_of new)

-- A table gives its rows to a new one and goes: the tables before and after it, both of them, and the columns that are made of an old row.
pub record Move : Type 0 where
  pub before : List Table
  pub gone : Table
  pub come : Table
  pub after : List Table
  pub made : Row → Row

-- the columns of a project by those that it had in version 1: it has no parent
abbrev pub without_parent : Row → Row
without_parent r = as_text (column r 1) ∷ as_text (column r 2) ∷ Text [] ∷ []

-- the projects of version 1 move
abbrev pub projects_move : Move
projects_move = record { before = tables_1; gone = projects_1; come = projects_2; after = tables_2; made = without_parent }

-- ---- from version 2 to version 3

-- the columns of a stored request by those that it had in version 2: its epoch is 0
abbrev pub with_first_epoch : Row → Row
with_first_epoch r = cast Integer (column r 1) ∷ Int (pos 0) ∷ as_text (column r 2) ∷ cast Integer (column r 3) ∷ as_text (column r 4) ∷ as_text (column r 5) ∷ []

-- the tables of version 3 but the epochs
abbrev pub tables_without_epochs : List Table
tables_without_epochs = accounts ∷ members ∷ bases ∷ changes ∷ patches ∷ votes ∷ reviewers ∷ comments ∷ attention ∷ desk ∷ projects_2 ∷ answers_3 ∷ []

-- the stored requests of version 2 move
abbrev pub answers_move : Move
answers_move = record { before = tables_2; gone = answers_1; come = answers_3; after = tables_without_epochs; made = with_first_epoch }

-- ---- versions

-- the schema of the tables of a version
abbrev pub schema_at : TablesVersion → Schema
schema_at First = schema_1
schema_at Second = schema_2
schema_at Third = desk_schema

-- the number of a version, as the table `desk` says it
abbrev pub version_number : TablesVersion → ℕ
version_number First = 1
version_number Second = 2
version_number Third = 3

-- an earlier version among all
abbrev pub version_of : EarlierVersion → TablesVersion
version_of earlier.First = First
version_of earlier.Second = Second

-- the tables whose rows have moved since a version
abbrev pub moves_since : EarlierVersion → List Move
moves_since earlier.First = projects_move ∷ answers_move ∷ []
moves_since earlier.Second = answers_move ∷ []

-- the tables that have come since a version
abbrev pub tables_since : EarlierVersion → List Table
tables_since earlier.First = projects_2 ∷ answers_3 ∷ epochs ∷ []
tables_since earlier.Second = answers_3 ∷ epochs ∷ []

-- whether a tree is that of a table that has come since a version
abbrev pub is_new : EarlierVersion → ℕ → Bool
is_new version tree = list_any (λ t. t.tree == tree) (tables_since version)

-- ---- from the tables of one version to those of the next

-- The rows of one table move to a new one, where each has a rowid of its own, all other tables keep their rows, and the whole is a database.
pub record Moves (move : Move) (old new : Database) : Type 0 where
  pub schema : old.schema ≡ schema_of move.before → new.schema ≡ schema_of move.after
  pub moved : old.schema ≡ schema_of move.before → AreMoved move.made (old.trees move.gone.tree) (new.trees move.come.tree)
  pub apart : old.schema ≡ schema_of move.before → AreApart (new.trees move.come.tree)
  pub others : old.schema ≡ schema_of move.before → AllByRecursion (λ t. t.tree ≢ move.come.tree → new.trees t.tree ≡ old.trees t.tree) move.after
  pub sound : old.schema ≡ schema_of move.before → IsDatabase new

-- the rows of the tables that went since a version stand in those that came
abbrev pub AllMoved : EarlierVersion → Trees → Trees → Type 0
AllMoved version old new = AllByRecursion (λ m. AreMoved m.made (old m.gone.tree) (new m.come.tree)) (moves_since version)

-- From an earlier version to the latest: the rows of the tables that went move to those that came, where each has a rowid of its own, the epochs are empty, and all other tables keep their rows, also
-- the one that says the version; and the whole is a database.
pub record Migrates (version : EarlierVersion) (old new : Database) : Type 0 where
  pub schema : old.schema ≡ schema_at (version_of version) → new.schema ≡ desk_schema
  pub moved : old.schema ≡ schema_at (version_of version) → AllMoved version old.trees new.trees
  pub apart : old.schema ≡ schema_at (version_of version) → AllByRecursion (λ t. AreApart (new.trees t.tree)) (tables_since version)
  pub empty : old.schema ≡ schema_at (version_of version) → new.trees epochs.tree ≡ []
  pub others : old.schema ≡ schema_at (version_of version) → AllByRecursion (λ t. is_new version t.tree ≡ false → new.trees t.tree ≡ old.trees t.tree) desk_tables
  pub sound : old.schema ≡ schema_at (version_of version) → IsDatabase new
