-- What `migrate` does.
use Rattle.std.specs.List.{AllByRecursion}
use Rattle.std.specs.Prelude.{◌≡◌, ◌≢◌, ◌⊎◌, [], ◌∷◌, List, Bool, true, false, Result, Ok, Err, IsTrue, IfOk}
use Rattle.sqlite.specs.{Effect.Database, Held.Held, Held.state, State.State, State.HasCleanDisk, State.Survives}
use Rattle.sqlite.specs.declared.error.Error.{Error, TheVariants.InvalidQuery}
use Rattle.sqlite_trees.specs.{Tree.Trees, declared.store.Store.Ghosts}
use Rattle.review_words.specs.History.{Entry}
use Rattle.review_sql_tables.specs.Ran.{IsReady, Transacts}
use Rattle.review_sql_tables.specs.Versions.{AllMoved, is_new, schema_at, version_number, version_of}
use Rattle.review_sql_tables.specs.declared.versions.{EarlierVersion.EarlierVersion, TablesVersion.TablesVersion}
use Rattle.review_sql_tables.specs.declared.versions.TablesVersion.TheVariants.{First, Second, Third}
use Rattle.review_machine_rows.specs.{Rows.Tables, Shelf.StopLeavesOwnTables, View.IsView, View.tables_version}
use Rattle.review_sql_records.specs.Forms.{first_epoch}
use Rattle.review_sql_lookups.specs.Tables.{tables_in, IsEarlierDesk, tables_at}
use Rattle.review_sql_writes.specs.{Commits.IsDesk, declared.numbers.Numbers.Numbers}
use Rattle.review_sql.specs.Opened.{AreApartIn, IsOpened, IsSeen, ReopensLast, IsNone, IsThere, SaysOther}
use Rattle.review_sql.specs.{Shelf.ShelfView, Shelf.Stays, Shelf.shown, declared.faults.DeskFault.DeskFault}
use Rattle.review_sql.specs.declared.faults.DeskFault.TheVariants.{NotADesk, WrongVersion, NotEmpty, NotOurs}
use Rattle.review_sql_tables.specs.Desk as table

-- The tables of a history as an earlier version keeps them: but for the version, they have just what the history says. They tell of no other epoch than 0, and that none is closed,
-- so they can be so only for a history in which each request is of epoch 0. Tables of version 1, which tell of no parents, can be so for a history whose entries are all of
-- version 1, since no project has a parent there (`first_version_has_no_parents`).
abbrev pub IsViewIn : EarlierVersion → List Entry → Tables → Type 0
IsViewIn version h t = (t.version ≡ version_number (version_of version)) × IsView h (record t { version = tables_version })

-- Whatever rows the tables of an earlier version have: the rows of the tables that went move to those that came, projects without a parent and stored requests with epoch 0, and all other tables keep
-- their rows, but for the row that says the version.
pub record KeepsRows (version : EarlierVersion) (old new : Trees) : Type 0 where
  pub moved : AllMoved version old new
  pub others : AllByRecursion (λ t. is_new version t.tree ≡ false → t.tree ≢ table.desk.tree → new t.tree ≡ old t.tree) table.desk_tables

-- Tables of an earlier version, where they are ours, become those of a desk of version 3 with so many requests and this least open epoch, of the same history.
pub record Upgrades (version : EarlierVersion) (is_ours : Bool) (numbers : Numbers) (old new : Database) : Type 0 where
  pub ready : IsTrue is_ours → old.schema ≡ schema_at (version_of version) → IsReady new × IsDesk numbers new.trees
  pub keeps : IsTrue is_ours → old.schema ≡ schema_at (version_of version) → KeepsRows version old.trees new.trees
  pub view : IsTrue is_ours → old.schema ≡ schema_at (version_of version) → IsEarlierDesk version numbers.requests old.trees → numbers.least ≡ first_epoch → (h : List Entry) → IsViewIn version h (tables_in version old.trees) → IsView h (tables_at new.trees)

-- how a transaction ended that was to be taken back where this is false, which is told as a failure
abbrev pub if_whole : Result Bool Error → Result (Unit {0}) Error
if_whole (Ok true) = Ok tt
if_whole (Ok false) = Err InvalidQuery
if_whole (Err e) = Err e

-- what was done was taken back, of tables of an earlier version, only where two rows of a table have one rowid
abbrev pub IsHindered : EarlierVersion → State → State → Result Bool Error → Type 0
IsHindered version old new result =
    HasCleanDisk new → IsTrue old.in_transaction → IfOk result (λ whole. whole ≡ false → old.now.schema ≡ schema_at (version_of version) → AreApartIn (version_of version) old.now.trees → ⊥)

-- tables of an earlier version were made those of version 3
pub record IsRaised {S : Type 0} (g : Ghosts S) (version : EarlierVersion) (is_ours : Bool) (old new : Held S) (numbers : Numbers) : Type 0 where
  pub form : HasCleanDisk (state g new) → IsTrue is_ours → old.schema ≡ schema_at (version_of version)
  pub there : HasCleanDisk (state g new) → IsThere (version_of version) (state g old).now numbers
  pub acts : Transacts {X = Unit {0}} (Upgrades version is_ours numbers) (state g old) (state g new) (Ok (tt {0}))

-- tables of version 3 were seen, and as ours where they are to be
pub record IsKept (is_ours : Bool) (old new : State) (numbers : Numbers) : Type 0 where
  pub has_form : Bool
  pub ours : IsTrue is_ours → has_form ≡ true
  pub stays : Stays old new
  pub seen : IsTrue new.is_open → IsSeen old (record { is_ours = has_form; numbers = numbers })

-- tables of an earlier version were made those of version 3, or tables of version 3 were kept
abbrev pub IsBrought : {S : Type 0} → Ghosts S → Bool → Held S → Held S → Numbers → Type 0
IsBrought g is_ours old new numbers = ((version : EarlierVersion) × IsRaised g version is_ours old new numbers) ⊎ IsKept is_ours (state g old) (state g new) numbers

-- Of tables of an earlier version those of version 3 were made. Where they are ours, these keep the rows, and view the same history, if the old ones view it as that version keeps it; and a stop within it leaves what one could leave before, or
-- tables of version 3 of which the same holds, and one after it these alone.
pub record IsUpgraded {S : Type 0} (g : Ghosts S) (is_ours : Bool) (conn : Held S) (shelf : ShelfView S) : Type 0 where
  pub version : EarlierVersion
  pub faults : shelf.faults ≡ 0
  pub form : HasCleanDisk (state g shelf.conn) → IsTrue is_ours → conn.schema ≡ schema_at (version_of version)
  pub there : HasCleanDisk (state g shelf.conn) → IsTrue (state g shelf.conn).is_open × IsThere (version_of version) (state g conn).now shelf.numbers
  pub keeps : HasCleanDisk (state g shelf.conn) → IsTrue is_ours → KeepsRows version (state g conn).now.trees (state g shelf.conn).now.trees
  pub view : HasCleanDisk (state g shelf.conn) → IsTrue is_ours → (h : List Entry) → IsViewIn version h (tables_in version (state g conn).now.trees) → IsView h (tables_at (state g shelf.conn).now.trees)
  pub alone : HasCleanDisk (state g shelf.conn) → StopLeavesOwnTables (shown g is_ours shelf)
  pub survives : Survives (state g conn) (state g shelf.conn) (λ db. IsTrue (state g conn).is_open × ((after : Database) × (db ≡ after.trees) × Upgrades version is_ours shelf.numbers (state g conn).now after × (IsTrue is_ours → (h : List Entry) → IsViewIn version h (tables_in version (state g conn).now.trees) → IsView h (tables_at db))))

-- A desk of version 3 was opened, as `open` says.
pub record IsOpenedAsIs {S : Type 0} (g : Ghosts S) (is_ours : Bool) (conn : Held S) (shelf : ShelfView S) : Type 0 where
  pub opened : IsOpened g conn shelf
  pub there : IsTrue (state g shelf.conn).is_open → IsThere Third (state g conn).now shelf.numbers
  pub goes_on : ReopensLast g is_ours conn shelf

-- What a stop within `migrate` may leave beside what was, where a desk of an earlier version is there: of tables of ours, which have our form, those of version 3 with the same history; of those of others nothing is said.
pub record LeavesUpgraded (is_ours : Bool) (old : State) (db : Trees) : Type 0 where
  pub version : EarlierVersion
  pub is_open : IsTrue old.is_open
  pub numbers : Numbers
  pub there : IsThere (version_of version) old.now numbers
  pub form : IsTrue is_ours → old.now.schema ≡ schema_at (version_of version)
  pub after : Database
  pub left : db ≡ after.trees
  pub upgrades : Upgrades version is_ours numbers old.now after
  pub view : IsTrue is_ours → (h : List Entry) → IsViewIn version h (tables_in version old.now.trees) → IsView h (tables_at db)

-- A refusal leaves what was. A stop within it leaves that or, of a desk of an earlier version alone, what it becomes; and nothing but what was where it is refused as no desk or as another version,
-- or where a desk of version 3 is there that is to be ours.
pub record IsNotMigrated (is_ours : Bool) (fault : DeskFault) (old new : State) : Type 0 where
  pub undone : IsTrue new.is_open → IsTrue old.is_open × (new.now ≡ old.now)
  pub survives : Survives old new (LeavesUpgraded is_ours old)
  pub no_earlier : (fault ≡ NotADesk) ⊎ (fault ≡ WrongVersion) → Stays old new
  pub latest : IsTrue is_ours → (numbers : Numbers) → IsThere Third old.now numbers → Stays old new

-- Why tables are not migrated: as no desk only where they are none, or lack something of one of the version that they say; as another version only where they say none of the versions 1 to 3; and as not ours only
-- where a desk of one of these versions is there whose tables are of another form than was made here, or have two rows with one rowid.
pub record IsUnfit (db : Database) (fault : DeskFault) : Type 0 where
  pub no_desk : fault ≡ NotADesk → (version : TablesVersion) × IsNone version db
  pub other_version : fault ≡ WrongVersion → SaysOther (First ∷ Second ∷ Third ∷ []) db
  pub not_ours : fault ≡ NotOurs → (version : TablesVersion) × ((numbers : Numbers) × IsThere version db numbers) × (db.schema ≡ schema_at version → AreApartIn version db.trees → ⊥)
  pub not_empty : fault ≢ NotEmpty
