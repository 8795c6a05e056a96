-- What proofs see of a shelf in SQLite, what create gives, and what a stop leaves of a desk of ours.
use Rattle.std.proofs.Math.Nat.{min-le_right}
use Rattle.std.specs.{Coded.Coded, Coded.code_by, Coded.coded×, Coded.coded_ℕ, List.Contains}
use Rattle.std.specs.Prelude.{ℕ, ◌≡◌, ◌≤◌, ◌⊎◌, map, false, Bool, List, Option, Some, None, Result, Ok, Err, IsTrue, if◌then◌else◌, refl, min, [], true, nat_lt}
use Rattle.sqlite.specs.{Effect.Database, Held.Held, Held.held_code, Held.state, Listing.understood}
use Rattle.sqlite.specs.State.{State, HasCleanDisk, Survives}
use Rattle.{sqlite_catalog.specs.Listing.IsSound, sqlite_resolve.specs.declared.compiled.Compiled.Compiled}
use Rattle.sqlite_schema.specs.declared.schema.Schema.{Schema}
use Rattle.sqlite_trees.specs.{Tree.Trees, declared.store.Store.Ghosts}
use Rattle.review_words.specs.History.{Entry, Identity}
use Rattle.review_sql_tables.specs.{Desk.desk_schema, Desk.schema_0, Ran.IsReady, Search.row_at}
use Rattle.review_sql_tables.specs.declared.texts.TheConstants.{ANY_ROW, READ_ROWS, READ_ROWS_1, READ_ROWS_2}
use Rattle.review_sql_tables.specs.declared.versions.TablesVersion.{TablesVersion}
use Rattle.review_sql_tables.specs.declared.versions.TablesVersion.TheVariants.{First, Second, Third}
use Rattle.review_machine_rows.specs.{Answer.IsHistory, Count.greatest_count, Rows.Tables}
use Rattle.review_machine_rows.specs.Shelf.{Shown, StopLeavesOwnTables, Answers, IsClosedIn}
use Rattle.review_machine_rows.specs.View.{IsView}
use Rattle.review_machine_rows.specs.declared.shelf.ShelfFault.{ShelfFault, TheVariants.Memory, TheVariants.Damaged}
use Rattle.review_sql_records.specs.{Forms.answers, declared.rows.RequestKey.RequestKey}
use Rattle.review_sql_lookups.specs.{Loads.AreBounded, Tables.tables_at, Tables.stored_as}
use Rattle.review_sql_lookups.specs.declared.counts.Counts.{Counts}
use Rattle.review_sql_writes.specs.{Commits.MakesDesk, Commits.IsDesk, declared.numbers.Numbers.Numbers}
use Rattle.review_sql.specs.declared.loading.Ended.{Ended}
use Rattle.review_sql.specs.declared.serving.LookedUp.{LookedUp, TheVariants.Closed, TheVariants.Open}
use Rattle.review_sql.specs.declared.loading.Ended.TheVariants as ended

-- the connection, what the desk says of itself, and how many calls were refused
pub record ShelfView (S : Type 0) : Type 0 where
  pub conn : Held S
  pub numbers : Numbers
  pub faults : ℕ

abbrev pub view_code : {S : Type 0} → Coded S → Coded (ShelfView S)
view_code {S} store =
    code_by (Held S × ((ℕ × ℕ) × ℕ)) (coded× (held_code store) (coded× (coded× coded_ℕ coded_ℕ) coded_ℕ)) (λ k. (k.conn, ((k.numbers.requests, k.numbers.least), k.faults)))
    (λ p. record { conn = p.0; numbers = record { requests = p.1.0.0; least = p.1.0.1 }; faults = p.1.1 }) (λ _. refl)

-- Between calls no transaction is open, and an open connection whose tables are ours has the tables of a desk.
pub record Holds {S : Type 0} (g : Ghosts S) (conn : Held S) (is_ours : Bool) (numbers : Numbers) : Type 0 where
  pub autocommit : conn.in_transaction ≡ false
  pub ready : IsTrue is_ours → IsTrue (state g conn).is_open → IsReady (state g conn).now × IsDesk numbers (state g conn).now.trees

-- what is known of counts is so in the tables, where these are ours
abbrev pub KnowsCounts : {S : Type 0} → Ghosts S → Held S → Bool → Counts → Type 0
KnowsCounts g conn is_ours counts = IsTrue is_ours → IsTrue (state g conn).is_open → AreBounded counts (tables_at (state g conn).now.trees)

-- a shelf was closed, which leaves its connection
abbrev pub IsHandedBack : {S : Type 0} → Ghosts S → Bool → ShelfView S → Held S → Type 0
IsHandedBack g is_ours shelf conn = (conn ≡ shelf.conn) × Holds g shelf.conn is_ours shelf.numbers

-- the tables in use, where no fault has shut the connection
abbrev pub tables_of : {S : Type 0} → Ghosts S → Held S → Option Tables
tables_of g conn = if (state g conn).is_open then Some (tables_at (state g conn).now.trees) else None

-- the trees are those of a desk of ours
pub record AreOurs (db : Trees) : Type 0 where
  pub numbers : Numbers
  pub ready : IsReady (record { schema = desk_schema; trees = db })
  pub desk : IsDesk numbers db

-- Trees of which it can't be that they are not those of a desk of ours. What a stop left of one is so.
abbrev pub AreLeftOfOurs : Trees → Type 0
AreLeftOfOurs db = (AreOurs db → ⊥) → ⊥

-- tables of no history
abbrev pub no_tables : Tables
no_tables = record { row = λ _. None; count = λ _. 0; answer = λ _. None; version = 0; requests = 0 }

-- What trees that a stop left show: their tables; and, of a shelf of ours, tables of no history where they are not those of a desk of ours.
abbrev pub ShowsLeft : Bool → Trees → Tables → Type 0
ShowsLeft is_ours db t = (t ≡ tables_at db) ⊎ (IsTrue is_ours × (AreOurs db → ⊥) × (t ≡ no_tables))

-- the tables that a stop may leave
abbrev pub stops_of : {S : Type 0} → Ghosts S → Bool → Held S → Tables → Type 0
stops_of g is_ours conn t = (db : Trees) × (state g conn).may_leave db × ShowsLeft is_ours db t

-- Honest is a shelf whose tables are ours, over a disk that returned what was written; whose they are no call changes.
abbrev pub shown : {S : Type 0} → Ghosts S → Bool → ShelfView S → Shown
shown g is_ours k = record { tables = tables_of g k.conn; is_honest = HasCleanDisk (state g k.conn) × IsTrue is_ours; faults = min k.faults greatest_count; stops = stops_of g is_ours k.conn }

-- the count fits its type
pub count_fits : (n : ℕ) → min n greatest_count ≤ greatest_count
count_fits n = min-le_right n greatest_count

-- a call that wrote nothing, and may have shut the connection
pub record Stays (old new : State) : Type 0 where
  pub kept : IsTrue new.is_open → IsTrue old.is_open × (new.now ≡ old.now)
  pub survives : Survives old new (λ _. ⊥)

-- a text is understood over a schema
abbrev pub IsUnderstood : Schema → List ℕ → Type 0
IsUnderstood schema sql = (c : Compiled) × (understood schema sql ≡ Ok c)

-- A refusal leaves what was. A stop within it leaves that or, where the store had no table, a whole desk; what it leaves where other tables stood is not said.
pub record IsUnmade (old new : State) : Type 0 where
  pub undone : IsTrue new.is_open → IsTrue old.is_open × (new.now ≡ old.now)
  pub survives : Survives old new (λ db. IsTrue old.is_open × ((after : Database) × (db ≡ after.trees) × MakesDesk old.now after))

-- a text that reads no column of a table of one of the names that tables of a desk have in any version is understood
abbrev pub IsAnyThere : Schema → Type 0
IsAnyThere schema = (sql : List ℕ) × Contains (map (λ t. t.now) ANY_ROW) sql × IsUnderstood schema sql

-- the texts that read all columns of the tables of a version beside the table `desk`, one of each
abbrev pub rows_read : TablesVersion → List (List ℕ)
rows_read First = map (λ t. t.now) READ_ROWS_1
rows_read Second = map (λ t. t.now) READ_ROWS_2
rows_read Third = map (λ t. t.now) READ_ROWS

-- the text that reads all columns of each of these tables of a version is understood
pub record AreAllRead (version : TablesVersion) (schema : Schema) : Type 0 where
  pub each : (sql : List ℕ) → Contains (rows_read version) sql → IsUnderstood schema sql

-- what is answered of how the look-ups of a need ended
abbrev pub answer_of : Ended → Result (Unit {0}) ShelfFault
answer_of ended.Learnt = Ok tt
answer_of ended.NoMemory = Err Memory
answer_of ended.Damaged = Err Damaged

-- ---- what `create` gives

-- No table of one of the names that tables of a desk have in any version was there. In a store with no table, the tables are those of the empty history; a stop within it leaves what one could leave before, or these, and one after it these alone.
pub record IsCreated {S : Type 0} (g : Ghosts S) (is_ours : Bool) (conn : Held S) (shelf : ShelfView S) : Type 0 where
  pub faults : shelf.faults ≡ 0
  pub view : HasCleanDisk (state g shelf.conn) → conn.schema ≡ schema_0 → IsTrue (state g shelf.conn).is_open × IsView [] (tables_at (state g shelf.conn).now.trees)
  pub empty : HasCleanDisk (state g shelf.conn) → IsAnyThere conn.schema → ⊥
  pub alone : HasCleanDisk (state g shelf.conn) → StopLeavesOwnTables (shown g is_ours shelf)
  pub survives : Survives (state g conn) (state g shelf.conn) (λ db. IsTrue (state g conn).is_open × ((after : Database) × (db ≡ after.trees) × MakesDesk (state g conn).now after))

-- ---- what a stop leaves of a desk of ours

-- all tables that a stop may leave are those of histories
abbrev pub StopsAreHistories : Shown → Type 0
StopsAreHistories s = (t : Tables) → s.stops t → (h : List Entry) × IsHistory h × IsView h t

-- Where all tables that a stop may leave of a shelf of ours are those of histories, all trees that it may leave are those of a desk of ours, with tables of a history that are among them.
abbrev pub StopLeavesDesk : {S : Type 0} → Ghosts S → Type 0
StopLeavesDesk {S} g = (shelf : ShelfView S) → StopsAreHistories (shown g true shelf) → (db : Trees) → (state g shelf.conn).may_leave db →
    AreLeftOfOurs db × (shown g true shelf).stops (tables_at db) × (h : List Entry) × IsHistory h × IsView h (tables_at db)

-- what `create` makes where there was no table is a desk of ours, with the tables of the empty history
abbrev pub MakesOurs : Type 0
MakesOurs = (old after : Database) → old.schema ≡ schema_0 → MakesDesk old after → AreOurs after.trees × IsView [] (tables_at after.trees)

-- trees that list and obey a schema with no view list and obey no other
abbrev pub TreesTellSchema : Type 0
TreesTellSchema = (db : Trees) (one other : Schema) → other.views ≡ [] → IsSound one db → IsSound other db → one ≡ other

-- ---- what is seen of an identity

-- the epoch of the key is below the least open one; or it isn't, and this is what the key has
abbrev pub IsLookedUp : RequestKey → ℕ → Trees → LookedUp → Type 0
IsLookedUp key least db Closed = nat_lt key.epoch least ≡ true
IsLookedUp key least db (Open found) = (nat_lt key.epoch least ≡ false) × (found ≡ row_at answers db key)

-- the same of tables
abbrev pub IsLookedUpIn : Tables → Identity → LookedUp → Type 0
IsLookedUpIn t i Closed = IsClosedIn t i.epoch
IsLookedUpIn t i (Open found) = Answers t i (stored_as i found)
