-- What a desk says of itself, how one is made, and what a commit does to its tables.
use Rattle.std.specs.List.{AllByRecursion}
use Rattle.std.specs.Prelude.{ℕ, ◌+◌, Option, unwrap_or, [], ◌≡◌, Bool, true, false, List, filter, IfSome, ◌≤◌, length}
use Rattle.{sqlite.specs.Effect.Database, sqlite_trees.specs.Tree.Trees, sqlite_value.specs.Order.Row as Raw}
use Rattle.review_table.specs.declared.table.RowEdit.{RowEdit}
use Rattle.review_sql_tables.specs.{Content.has_key, Desk.schema_0, Desk.is_tree, Ran.IsReady}
use Rattle.review_sql_tables.specs.{Search.Search, Search.rows_at, Versions.IsBlank}
use Rattle.review_machine_rows.specs.{Rows.kept_row, Shelf.IsCommitted, View.IsView}
use Rattle.review_machine_rows.specs.declared.rows.{ChangeEdit.ChangeEdit, Delta.Delta, Kept.Kept, PlaceKey.PlaceKey}
use Rattle.review_sql_records.specs.Forms.{accounts, members, projects, bases, answers, desk, epochs, is_of_lower, request_key}
use Rattle.review_sql_change_records.specs.Forms.{headers, patches, votes, roles, comments, attention_entries}
use Rattle.review_sql_lookups.specs.Tables.{SaysDesk, tables_at}
use Rattle.review_sql_writes.specs.declared.numbers.Numbers.{Numbers}

-- ---- what a desk says of itself beside its rows

-- the tables say that they are a desk's, that so many requests were ever stored, and that this epoch is the least open one
abbrev pub IsDesk : Numbers → Trees → Type 0
IsDesk numbers = SaysDesk numbers.requests numbers.least

-- one request more is stored, and this is the least open epoch, where one is named
abbrev pub with_request : Numbers → Option ℕ → Numbers
with_request numbers epoch = record { requests = numbers.requests + 1; least = unwrap_or epoch numbers.least }

-- ---- a desk before its first request

-- of a store with no table a desk without a request is made
pub record MakesDesk (old new : Database) : Type 0 where
  pub ready : IsBlank schema_0 old → IsReady new
  pub view : IsBlank schema_0 old → IsView [] (tables_at new.trees)
  pub desk : IsBlank schema_0 old → IsDesk (record { requests = 0; least = 0 }) new.trees

-- ---- which rows a commit names by their keys, table by table

-- A test on the raw rows of a table.
abbrev pub Test : Type 0
Test = Raw → Bool

-- the test passes no row of the key, where it is one of this table
abbrev pub Spares : {A X : Type 0} → ℕ → Test → Search A X → A → Type 0
Spares tree test s key = tree ≡ s.tree → (r : Raw) → has_key (s.at key) r ≡ true → test r ≡ false

-- the same of the keys of all changes
abbrev pub SparesAll : {A X : Type 0} → ℕ → Test → Search A X → List (RowEdit A X) → Type 0
SparesAll tree test s changes = AllByRecursion (λ c. Spares tree test s c.key) changes

-- the same of an owner's
abbrev pub SparesParts : {O K X : Type 0} → ℕ → Test → Search (O × K) X → O → List (RowEdit K X) → Type 0
SparesParts tree test s owner changes = AllByRecursion (λ c. Spares tree test s (owner, c.key)) changes

-- the test passes no row that an edit of a change names
pub record SparesEdit (tree : ℕ) (test : Test) (e : ChangeEdit) : Type 0 where
  pub header : Spares tree test headers e.change
  pub of_patches : SparesParts tree test patches e.change e.patches.items
  pub of_votes : SparesParts tree test votes e.change e.votes.items
  pub of_roles : SparesParts tree test roles e.change e.roles.items
  pub of_comments : SparesParts tree test comments e.change e.comments.items
  pub of_attention : SparesParts tree test attention_entries e.change e.attention.items

-- the test passes no row that a delta names, nor the row of the request, nor that of the table `desk`; and where the delta names an epoch, neither the row of the table `epochs` nor a stored request of a lower epoch
pub record SparesNamed (delta : Delta) (kept : Kept) (tree : ℕ) (test : Test) : Type 0 where
  pub of_accounts : SparesAll tree test accounts delta.accounts.items
  pub of_members : SparesAll tree test members delta.members.items
  pub of_file : IfSome delta.file (λ r. Spares tree test projects r.key)
  pub of_base : IfSome delta.base (λ r. Spares tree test bases r.key)
  pub of_changes : AllByRecursion (SparesEdit tree test) delta.changes.items
  pub of_answer : Spares tree test answers (request_key (kept_row kept).identity)
  pub of_desk : Spares tree test desk tt
  pub of_epochs : IfSome delta.least_epoch (λ least. Spares tree test epochs tt)
  pub of_closed : IfSome delta.least_epoch (λ least. tree ≡ answers.tree → (r : Raw) → is_of_lower least r ≡ true → test r ≡ false)

-- of each table the rows that no named key has are as they were, whatever test finds them, but for the stored requests of lower epochs where an epoch is named
pub record KeepsRest (delta : Delta) (kept : Kept) (old new : Trees) : Type 0 where
  pub each : (tree : ℕ) (test : Test) → is_tree tree ≡ true → SparesNamed delta kept tree test → filter test (new tree) ≡ filter test (old tree)

-- ---- commits

-- no two rows of the tables whose rows are counted have one key
pub record AreSingle (db : Trees) : Type 0 where
  pub projects_are : (project : List ℕ) → length (rows_at (projects.at project) (db projects.tree)) ≤ 1
  pub bases_are : (key : PlaceKey) → length (rows_at (bases.at key) (db bases.tree)) ≤ 1

-- the delta is applied and the request is stored, where the tables are a desk's with these numbers; no row comes or goes but those of the keys that are named, and the kept answers of epochs that close
pub record Commits (delta : Delta) (kept : Kept) (numbers : Numbers) (old new : Database) : Type 0 where
  pub ready : IsReady old → IsReady new
  pub committed : IsReady old → AreSingle old.trees → IsDesk numbers old.trees → IsCommitted (tables_at old.trees) delta (kept_row kept) (tables_at new.trees)
  pub desk : IsReady old → IsDesk numbers old.trees → IsDesk (with_request numbers delta.least_epoch) new.trees
  pub rest : IsReady old → KeepsRest delta kept old.trees new.trees
