-- What is seen of tables before a desk is opened, what opening gives, and why it is refused.
use Rattle.std.specs.List.{AllByRecursion}
use Rattle.std.specs.Prelude.{ℕ, ◌≡◌, ◌≢◌, ◌⊎◌, List, [], ◌∷◌, Option, Some, None, Ok, true, Result, IsTrue, IfOk, Bool}
use Rattle.sqlite.specs.{Effect.Database, Effect.Reads, Held.Held, Held.state, Listing.understood}
use Rattle.sqlite.specs.{State.State, State.HasCleanDisk, declared.error.Error.Error}
use Rattle.sqlite_resolve.specs.declared.compiled.Compiled.{Compiled}
use Rattle.sqlite_trees.specs.{Tree.Trees, declared.store.Store.Ghosts}
use Rattle.{sqlite_value.specs.Order.Row, sqlite_value.specs.Order.column, review_words.specs.Epochs.is_epoch}
use Rattle.review_sql_tables.specs.{Content.AreApart, Desk.desk_schema, Ran.IsDeskIfOpen, Ran.IsReady, Search.number_in}
use Rattle.review_sql_tables.specs.Versions.{version_number, schema_at}
use Rattle.review_sql_tables.specs.declared.texts.TheConstants.{FIND_DESK, FIND_EPOCHS}
use Rattle.review_sql_tables.specs.declared.versions.TablesVersion.{TablesVersion}
use Rattle.review_sql_tables.specs.declared.versions.TablesVersion.TheVariants.{First, Second, Third}
use Rattle.review_machine_rows.specs.Shelf.{AddsNoStop, StaysOrShuts}
use Rattle.review_sql_records.specs.Forms.{first_epoch, where_is}
use Rattle.review_sql_writes.specs.{Commits.IsDesk, declared.numbers.Numbers.Numbers}
use Rattle.review_sql.specs.Shelf.{AreAllRead, IsUnderstood, ShelfView, Stays, IsHandedBack, shown, tables_of}
use Rattle.review_sql.specs.declared.faults.DeskFault.{DeskFault}
use Rattle.review_sql.specs.declared.faults.DeskFault.TheVariants.{NotADesk, WrongVersion, NotEmpty, NotOurs, Memory, Store}
use Rattle.review_sql.specs.declared.seen.{Said.Said, Seen.Seen}

-- ---- what the tables `desk` and `epochs` say, whatever the form of the tables

-- the query that a text is understood as shows these rows
pub record ShowsRows (db : Database) (sql : List ℕ) (rows : List Row) : Type 0 where
  pub query : Compiled
  pub is : understood db.schema sql ≡ Ok query
  pub shown : Reads query.command db [] rows

-- the number that the one row has in a column; none where there are no rows or several, or where no number stands there
abbrev pub number_of_one : ℕ → List Row → Option ℕ
number_of_one at (r ∷ []) = number_in (column r at)
number_of_one at _ = None

-- the version that the rows of the table `desk` say, and how many requests they say that there are
abbrev pub version_shown : List Row → Option ℕ
version_shown = number_of_one 0

abbrev pub requests_shown : List Row → Option ℕ
requests_shown = number_of_one 1

-- the rows of the table `desk`, each by its version and its requests
abbrev pub ShowsDesk : Database → List Row → Type 0
ShowsDesk db rows = ShowsRows db FIND_DESK.now rows

-- the rows of the table `epochs`
abbrev pub ShowsEpochs : Database → List Row → Type 0
ShowsEpochs db rows = ShowsRows db FIND_EPOCHS.now rows

-- this is what the rows of the table `desk` say
pub record IsSaid (db : Database) (said : Said) : Type 0 where
  pub rows : List Row
  pub shown : ShowsDesk db rows
  pub version_is : said.version ≡ version_shown rows
  pub requests_are : said.requests ≡ requests_shown rows

-- this is what the rows of the table `desk` say, and this version is among it
abbrev pub SaysVersion : TablesVersion → Database → Said → Type 0
SaysVersion version db said = IsSaid db said × (said.version ≡ Some (version_number version))

-- the least open epoch that the one row of the table `epochs` says
abbrev pub least_shown : List Row → Option ℕ
least_shown rows = where_is is_epoch (number_of_one 0 rows)

-- The one row of the table `epochs` says that this epoch is the least open one; before version 3 it is the first.
abbrev pub SaysLeast : TablesVersion → Database → ℕ → Type 0
SaysLeast First db least = least ≡ first_epoch
SaysLeast Second db least = least ≡ first_epoch
SaysLeast Third db least = (rows : List Row) × ShowsEpochs db rows × (least_shown rows ≡ Some least)

-- the rows of the table `epochs` say no epoch
abbrev pub LacksLeast : TablesVersion → Database → Type 0
LacksLeast First db = ⊥
LacksLeast Second db = ⊥
LacksLeast Third db = (rows : List Row) × ShowsEpochs db rows × (least_shown rows ≡ None)

-- the table `desk` has one row, which says this version and so many requests, all columns of the other tables of the version are there, and this epoch is said to be the least open one
pub record IsThere (version : TablesVersion) (db : Database) (numbers : Numbers) : Type 0 where
  pub rows : List Row
  pub shown : ShowsDesk db rows
  pub version_is : version_shown rows ≡ Some (version_number version)
  pub requests_are : requests_shown rows ≡ Some numbers.requests
  pub tables : AreAllRead version db.schema
  pub least : SaysLeast version db numbers.least

-- a desk of version 3 is there
abbrev pub IsDeskThere : Database → Numbers → Type 0
IsDeskThere = IsThere Third

-- how many requests there are is not said, a table is missing, or no least open epoch is said
abbrev pub LacksPart : TablesVersion → Database → List Row → Type 0
LacksPart version db rows = (requests_shown rows ≡ None) ⊎ ((AreAllRead version db.schema → ⊥) ⊎ LacksLeast version db)

-- the rows say no version, or this one and lack a part of a desk
abbrev pub LacksDesk : TablesVersion → Database → List Row → Type 0
LacksDesk version db rows = (version_shown rows ≡ None) ⊎ ((version_shown rows ≡ Some (version_number version)) × LacksPart version db rows)

-- the table `desk` isn't there with its columns, or what its rows say is no desk of this version nor of another
abbrev pub IsNone : TablesVersion → Database → Type 0
IsNone version db = (IsUnderstood db.schema FIND_DESK.now → ⊥) ⊎ ((rows : List Row) × ShowsDesk db rows × LacksDesk version db rows)

-- it is no desk of version 3 nor of another
abbrev pub IsNoDesk : Database → Type 0
IsNoDesk = IsNone Third

-- the one row of the table `desk` says a version that is none of these, whatever else it says
abbrev pub SaysOther : List TablesVersion → Database → Type 0
SaysOther versions db = (rows : List Row) × ShowsDesk db rows × ((version : ℕ) × (version_shown rows ≡ Some version) × AllByRecursion (λ v. version ≢ version_number v) versions)

-- the one row of the table `desk` says another version than 3
abbrev pub IsOtherVersion : Database → Type 0
IsOtherVersion = SaysOther (Third ∷ [])

-- ---- opening

-- the rows of each table of a version have rowids of their own
abbrev pub AreApartIn : TablesVersion → Trees → Type 0
AreApartIn version db = AllByRecursion (λ t. AreApart (db t.tree)) (schema_at version).tables

-- the rows of each table of a desk have rowids of their own
abbrev pub AreAllApart : Trees → Type 0
AreAllApart = AreApartIn Third

-- a call that only looked at the tables of a desk, and left them
pub record Peeks {X : Type 0} (Found : Trees → X → Type 0) (old new : State) (result : Result X Error) : Type 0 where
  pub found : HasCleanDisk new → IsDeskIfOpen old → IfOk result (λ x. IsTrue new.is_open → Found old.now.trees x)
  pub stays : Stays old new

-- nothing is written, and no call was refused
pub record IsOpened {S : Type 0} (g : Ghosts S) (conn : Held S) (shelf : ShelfView S) : Type 0 where
  pub faults : shelf.faults ≡ 0
  pub stays : Stays (state g conn) (state g shelf.conn)

-- the tables are ours only where they are those of a desk with so many requests and this least open epoch, and wherever they have the form and their rows rowids of their own; of any form, a desk is there
pub record IsSeen (s : State) (seen : Seen) : Type 0 where
  pub ready : seen.is_ours ≡ true → IsReady s.now × IsDesk seen.numbers s.now.trees
  pub ours : s.now.schema ≡ desk_schema → AreAllApart s.now.trees → seen.is_ours ≡ true
  pub there : IsDeskThere s.now seen.numbers

-- where the store was shut meanwhile, it is told only that there was no memory or that the store had a fault
abbrev pub TellsShut : State → DeskFault → Type 0
TellsShut new fault = HasCleanDisk new → IsTrue new.is_open ⊎ ((fault ≡ Memory) ⊎ (fault ≡ Store))

-- Why tables are refused, of whatever form: as no desk or another version only where they are, and as not ours only where a desk is there whose tables are of another form or have two rows with one rowid.
pub record IsRefused (s : State) (fault : DeskFault) : Type 0 where
  pub no_desk : fault ≡ NotADesk → IsNoDesk s.now
  pub other_version : fault ≡ WrongVersion → IsOtherVersion s.now
  pub not_ours : fault ≡ NotOurs → ((numbers : Numbers) × IsDeskThere s.now numbers) × (s.now.schema ≡ desk_schema → AreAllApart s.now.trees → ⊥)
  pub not_empty : fault ≢ NotEmpty

-- Why tables are refused that say this version or none: as no desk only where they are none, and else for want of memory or a fault of the store.
pub record IsLacking (version : TablesVersion) (s : State) (fault : DeskFault) : Type 0 where
  pub no_desk : fault ≡ NotADesk → IsNone version s.now
  pub no_other : (fault ≢ WrongVersion) × (fault ≢ NotEmpty) × (fault ≢ NotOurs)

-- ---- a shelf whose connection was left by one that was closed

-- The tables stay, or the store is shut; it is honest only where the shelf before it was; and, while the disk is clean, a stop leaves nothing new.
pub record IsReopened {S : Type 0} (g : Ghosts S) (is_ours : Bool) (old new : ShelfView S) : Type 0 where
  pub tables : StaysOrShuts (tables_of g old.conn) (tables_of g new.conn)
  pub honest : (shown g is_ours new).is_honest → (shown g is_ours old).is_honest
  pub stops : HasCleanDisk (state g new.conn) → AddsNoStop (shown g is_ours old) (shown g is_ours new)

-- whatever shelf was closed last, this is that shelf opened again
abbrev pub ReopensLast : {S : Type 0} → Ghosts S → Bool → Held S → ShelfView S → Type 0
ReopensLast {S} g is_ours conn new = (old : ShelfView S) → IsHandedBack g is_ours old conn → IsReopened g is_ours old new

-- what a shelf of ours left is refused only for want of memory or for a fault of the store, where that is not shut
abbrev pub IsRefusedAgain : {S : Type 0} → Ghosts S → Bool → Held S → Held S → DeskFault → Type 0
IsRefusedAgain {S} g is_ours conn new fault = (old : ShelfView S) → IsHandedBack g is_ours old conn → IsTrue is_ours → IsTrue (state g new).is_open → (fault ≡ Memory) ⊎ (fault ≡ Store)
