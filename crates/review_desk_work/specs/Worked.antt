-- What a task on the tables of a connection did, what making and migrating did, and serving in turns.
use Rattle.std.specs.Io.KnownBytes.{Appends}
use Rattle.std.specs.Prelude.{◌≡◌, ◌≢◌, ◌⊎◌, ◌||◌, ℕ, Bool, true, false, not, List, [], Option, Result, Ok, Err, IsTrue, IfOk, IfErr, ◌+◌, ◌≤◌, ◌==◌, if◌then◌else◌, ◌∷◌, Some, None}
use Rattle.sqlite.specs.{Held.Held, Held.state, State.HasCleanDisk}
use Rattle.{sqlite_trees.specs.declared.store.Store.Ghosts, review_words.specs.declared.command.Delivery.Delivery}
use Rattle.{review_words.specs.declared.reply.Reply.Reply, review_sql_tables.specs.Desk.schema_0}
use Rattle.{review_machine_rows.specs.Shelf.Shown, review_machine_deliveries.specs.Delivered.WasRun}
use Rattle.review_machine_deliveries.specs.Restart.{RepliesFollowHistory, RestartAfterCut, RestartAfterStop, RestartCompletes, RestartIsRun, RestartKeepsHistory, RunIsSession, RunsCompose, RunsGoOn}
use Rattle.review_http.specs.{Peers.Peers, Peers.ServedAll, declared.connections.ConnectionsFault.ConnectionsFault}
use Rattle.review_json_lines.specs.{Answers.WereAnswered, declared.fault.Fault.Fault, declared.fault.Outcome.Outcome}
use Rattle.review_sql.specs.Migrated.{IsNotMigrated, IsOpenedAsIs, IsUnfit, IsUpgraded}
use Rattle.review_sql.specs.Opened.{IsOpened, IsRefused, TellsShut, ReopensLast, IsDeskThere}
use Rattle.review_sql.specs.Shelf.{IsCreated, MakesOurs, StopLeavesDesk, TreesTellSchema, AreLeftOfOurs, ShelfView, Stays, shown, IsAnyThere, IsHandedBack, IsUnmade}
use Rattle.review_sql.specs.declared.faults.DeskFault.{DeskFault}
use Rattle.review_sql.specs.declared.faults.DeskFault.TheVariants.{NotADesk, WrongVersion, NotEmpty, NotOurs}
use Rattle.review_desk_work.specs.Faults.{desk_fault, lines_outcome, serve_outcome, shown_outcome, after_closing}
use Rattle.review_desk_work.specs.Told.{Showed, branch_questions, change_page, change_questions, joined_page}
use Rattle.review_desk_work.specs.declared.fault.ProgramFault.{ProgramFault}
use Rattle.review_desk_work.specs.declared.fault.ProgramFault.TheVariants.{Memory, ServedInPart, Store}
use Rattle.review_desk_work.specs.declared.{show_fault.ShowFault.ShowFault, task.Ends.Ends, task.Task.Task}
use Rattle.review_desk_work.specs.declared.task.Task.TheVariants.{Apply, Serve, Show, Joined}
use Rattle.review_sql.specs.declared.faults.DeskFault.TheVariants as desk

-- lines of an input were taken and answered, as `apply_lines` says
pub record TookLines (input before after : Option (List ℕ)) (ended : Result Outcome ProgramFault) (s t : Shown) : Type 0 where
  pub told : Result Outcome Fault
  pub ends : ended ≡ lines_outcome told
  pub answered : WereAnswered (λ ds replies. WasRun ds replies s t) input before after told

-- questions were asked and the page of their replies was written, as `show_lines` and `joined_lines` say
pub record EndsShown (questions : List Delivery) (page : List Reply → Result (List ℕ) ShowFault) (before after : Option (List ℕ)) (ended : Result Outcome ProgramFault) (s t : Shown) : Type 0 where
  pub told : Result (Unit {0}) ShowFault
  pub ends : ended ≡ shown_outcome told
  pub showed : Showed questions page before after told s t

-- so many connections were served, or fewer, as `serve_connections` says
pub record EndsServed {X : Type 0} (state : X → Shown) (count : ℕ) (before after : Peers) (ended : Result Outcome ProgramFault) (old new : X) : Type 0 where
  pub told : Result ℕ ConnectionsFault
  pub ends : ended ≡ serve_outcome told
  pub served : ServedAll state before after count told old new

-- What is known of the ends of a task: the bytes that the reader still gives, those that the writer holds, the peers of connections, and whether it was told that the tables are not those of a desk alone.
pub record Known : Type 0 where
  pub input : Option (List ℕ)
  pub output : Option (List ℕ)
  pub peers : Peers
  pub is_warned : Bool

-- that of these ends, where these say what is known of a reader, of a writer, of connections and of notices
abbrev pub known : {R W C N : Type 0} → (R → Option (List ℕ)) → (W → Option (List ℕ)) → (C → Option (List (List ℕ))) → (C → Option (List (List ℕ))) → (N → Bool) → Ends R W C N → Known
known remaining contents coming told is_warned ends =
    record { input = remaining ends.input; output = contents ends.output; peers = record { coming = coming ends.connections; told = told ends.connections }; is_warned = is_warned ends.notices }

-- What a task did on a shelf that shows its tables so, with ends of which this is known before and after, and how it ended. Only to serve touches
-- connections, and it writes nothing to the writer; only to take lines reads from the reader; where there was no memory for the table of paths, it did nothing at all.
abbrev pub HasDone : {X : Type 0} → (X → Shown) → Task → Known → Known → Result Outcome ProgramFault → X → X → Type 0
HasDone state Apply before after ended old new = TookLines before.input before.output after.output ended (state old) (state new) × (after.peers ≡ before.peers)
HasDone state (Serve count) before after ended old new =
    (((ended ≡ Err Memory) × (new ≡ old) × (after.peers ≡ before.peers)) ⊎ EndsServed state count before.peers after.peers ended old new)
    × Appends before.output after.output [] × (after.input ≡ before.input)
HasDone state (Show change) before after ended old new =
    EndsShown (change_questions change) change_page before.output after.output ended (state old) (state new) × (after.peers ≡ before.peers) × (after.input ≡ before.input)
HasDone state (Joined project branch) before after ended old new =
    EndsShown (branch_questions project branch) joined_page before.output after.output ended (state old) (state new) × (after.peers ≡ before.peers) × (after.input ≡ before.input)

-- What a task did on a shelf that is ours or not: where it isn't, and only there, that was told.
abbrev pub Does : {X : Type 0} → Task → Known → Known → Result Outcome ProgramFault → Bool → (X → Shown) → X → X → Type 0
Does task before after ended is_ours state old new = HasDone state task before after ended old new × (after.is_warned ≡ (not is_ours || before.is_warned))

-- A shelf was opened over the connection, where a desk was there, as the one that was closed last; this was done on it, and it was closed.
pub record OnShelf {S : Type 0} (g : Ghosts S) (is_ours : Bool) (Did : Bool → (ShelfView S → Shown) → ShelfView S → ShelfView S → Type 0) (old new : Held S) : Type 0 where
  pub opened : ShelfView S
  pub left : ShelfView S
  pub is_opened : IsOpened g old opened
  pub there : IsTrue (state g opened.conn).is_open → IsDeskThere (state g old).now opened.numbers
  pub goes_on : ReopensLast g is_ours old opened
  pub did : Did is_ours (shown g is_ours) opened left
  pub closed : IsHandedBack g is_ours left new

-- the tables were refused as not ours, and stayed; no stop of a desk of ours left them
pub record IsNotOurs {S : Type 0} (g : Ghosts S) (old new : Held S) : Type 0 where
  pub stays : Stays (state g old) (state g new)
  pub cause : IsTrue (state g new).is_open → IsRefused (state g old) NotOurs
  pub left : IsTrue (state g new).is_open → AreLeftOfOurs (state g old).now.trees → ⊥

-- No desk was opened, for another reason than that the tables aren't ours: they are as they were, and nothing was read, written or told, nor any connection touched. Where a stop of a desk of ours left them, there was no memory or
-- the store had a fault.
pub record IsRefusedDesk {S : Type 0} (g : Ghosts S) (before after : Known) (old new : Held S) (ended : Result Outcome ProgramFault) : Type 0 where
  pub fault : DeskFault
  pub ends : ended ≡ Err (desk_fault fault)
  pub lacking : fault ≢ NotOurs
  pub stays : Stays (state g old) (state g new)
  pub cause : IsTrue (state g new).is_open → IsRefused (state g old) fault
  pub left : IsTrue (state g new).is_open → AreLeftOfOurs (state g old).now.trees → (fault ≡ desk.Memory) ⊎ (fault ≡ desk.Store)
  pub shut : TellsShut (state g new) fault
  pub same : after ≡ before

-- This was done on a shelf of ours, or no desk was opened; where the tables are not ours, it was done on a shelf over them, or no desk was opened.
abbrev pub IsDoneOn : {S : Type 0} → Ghosts S → (Bool → (ShelfView S → Shown) → ShelfView S → ShelfView S → Type 0) → (Held S → Held S → Type 0) → Held S → Held S → Type 0
IsDoneOn {S} g Did Refuses old new =
    OnShelf g true Did old new ⊎ (Refuses old new ⊎ ((between : Held S) × IsNotOurs g old between × (OnShelf g false Did between new ⊎ Refuses between new)))

-- What a task did on the tables of a connection: on a desk that was opened, as `Does` says; or no desk was opened.
pub record Worked {S : Type 0} (g : Ghosts S) (task : Task) (before after : Known) (ended : Result Outcome ProgramFault) (old new : Held S) : Type 0 where
  pub how : IsDoneOn g (Does task before after ended) (λ (s t : Held S). IsRefusedDesk g before after s t ended) old new

-- What holds of runs over the shelves of ours of a store, closed and opened again, and stopped and begun again: they are one run; what a stop leaves of a desk is a desk, and what it leaves within
-- `create` that or no table.
pub record RunsAreOne {S : Type 0} (g : Ghosts S) : Type 0 where
  pub compose : RunsCompose
  pub session : RunIsSession (shown g true)
  pub go_on : RunsGoOn (shown g true)
  pub history : RestartKeepsHistory
  pub replies : RepliesFollowHistory
  pub completes : RestartCompletes
  pub is_run : RestartIsRun
  pub after_stop : RestartAfterStop
  pub after_cut : RestartAfterCut
  pub left : StopLeavesDesk g
  pub made : MakesOurs
  pub schema : TreesTellSchema

-- Why no desk was made: never as no desk or another version; where it was for a table of one of the names that tables of a desk have in any version, one is there, and nothing was touched; and
-- not as not ours but where one of ours was to be made, in a store with tables.
abbrev pub IsCauseOf : {S : Type 0} → Ghosts S → Bool → Held S → Held S → DeskFault → Type 0
IsCauseOf g is_ours old new cause =
    (cause ≢ NotADesk) × (cause ≢ WrongVersion) × (cause ≡ NotEmpty → Stays (state g old) (state g new) × (IsTrue (state g new).is_open → IsAnyThere old.schema))
    × (cause ≡ NotOurs → IsTrue is_ours × (IsTrue (state g new).is_open → old.schema ≡ schema_0 → ⊥)) × TellsShut (state g new) cause

-- A desk was made as `create` says, and closed, or refused with the tables as they were.
abbrev pub Made : {S X : Type 0} → Ghosts S → Bool → Held S → Held S → Result X ProgramFault → Type 0
Made {S} g is_ours old new made =
    IfOk made (λ done. (shelf : ShelfView S) × IsCreated g is_ours old shelf × IsHandedBack g is_ours shelf new)
    × IfErr made (λ fault. IsUnmade (state g old) (state g new) × (IsAnyThere old.schema → HasCleanDisk (state g new) → Stays (state g old) (state g new)) × ((cause : DeskFault) × (fault ≡ desk_fault cause) × IsCauseOf g is_ours old new cause))

-- A desk was to be made: one of ours exactly in a store with no table.
pub record WasMade {S X : Type 0} (g : Ghosts S) (old new : Held S) (made : Result X ProgramFault) : Type 0 where
  pub is_ours : Bool
  pub ours : old.schema ≡ schema_0 → is_ours ≡ true
  pub only : is_ours ≡ true → old.schema ≡ schema_0
  pub how : Made g is_ours old new made

-- A desk was migrated, or was of the latest version, and closed; no fault ended it.
abbrev pub Migrated : {S : Type 0} → Ghosts S → Bool → Held S → Held S → Type 0
Migrated {S} g is_ours old new = (shelf : ShelfView S) × (IsUpgraded g is_ours old shelf ⊎ IsOpenedAsIs g is_ours old shelf) × IsHandedBack g is_ours shelf new

-- No desk was migrated, for another reason than that the tables aren't ours; where a stop of a desk of ours left them, there was no memory or the store had a fault.
pub record IsUnmigrated {S X : Type 0} (g : Ghosts S) (is_ours : Bool) (ended : Result X ProgramFault) (old new : Held S) : Type 0 where
  pub fault : DeskFault
  pub ends : ended ≡ Err (desk_fault fault)
  pub lacking : fault ≢ NotOurs
  pub unmade : IsNotMigrated is_ours fault (state g old) (state g new)
  pub cause : IsTrue (state g new).is_open → IsUnfit (state g old).now fault
  pub left : IsTrue (state g new).is_open → AreLeftOfOurs (state g old).now.trees → (fault ≡ desk.Memory) ⊎ (fault ≡ desk.Store)
  pub shut : TellsShut (state g new) fault

-- Tables were migrated as ours or not, or none were. It was told that they are not ours where they were migrated so, and only there.
abbrev pub IsMigratedOrNot : {S : Type 0} → Ghosts S → Bool → Bool → Bool → Result (Unit {0}) ProgramFault → Held S → Held S → Type 0
IsMigratedOrNot g is_ours before after ended old new =
    ((ended ≡ Ok tt) × Migrated g is_ours old new × (after ≡ (not is_ours || before))) ⊎ (IsUnmigrated g is_ours ended old new × (after ≡ before))

-- tables were not migrated as ours, since they are not; no stop of a desk of ours left them
pub record AreOthers {S : Type 0} (g : Ghosts S) (old new : Held S) : Type 0 where
  pub unmade : IsNotMigrated true NotOurs (state g old) (state g new)
  pub cause : IsTrue (state g new).is_open → IsUnfit (state g old).now NotOurs
  pub left : IsTrue (state g new).is_open → AreLeftOfOurs (state g old).now.trees → ⊥

-- Tables were migrated as ours, or none were; where they are not ours, they were migrated as those of others, or none were.
abbrev pub WasMigrated : {S : Type 0} → Ghosts S → Bool → Bool → Result (Unit {0}) ProgramFault → Held S → Held S → Type 0
WasMigrated {S} g before after ended old new =
    IsMigratedOrNot g true before after ended old new ⊎ ((between : Held S) × AreOthers g old between × IsMigratedOrNot g false before after ended between new)

-- ---- serving on a desk that is opened again where a fault has shut its store

-- how many connections are left, where serving ended behind a fault of the store
abbrev pub left_by : Result Outcome ProgramFault → Option ℕ
left_by (Err (ServedInPart left)) = Some left
left_by _ = None

-- A turn: so many connections were to be served on a desk, that was opened for it or is the one of the turn before; and how that ended.
pub record Turn (S : Type 0) : Type 0 where
  pub is_anew : Bool
  pub count : ℕ
  pub before : Known
  pub after : Known
  pub old : Held S
  pub new : Held S
  pub ended : Result Outcome ProgramFault

-- how many times in a row a desk is opened again at most
abbrev pub most_in_row : ℕ
most_in_row = 8

-- How many turns in a row, up to one that comes behind these and has so many connections left, are on a desk that was opened again after a single connection. The last turn stands first.
abbrev pub row_behind : {S : Type 0} → List (Turn S) → Bool → ℕ → ℕ
row_behind [] is_anew left = 0
row_behind (was ∷ more) is_anew left = if is_anew then (if left + 1 == was.count then row_behind more was.is_anew was.count + 1 else 1) else 0

-- the same, up to the last
abbrev pub in_row : {S : Type 0} → List (Turn S) → ℕ
in_row [] = 0
in_row (t ∷ turns) = row_behind turns t.is_anew t.count

module _ {S : Type 0} (g : Ghosts S) (first : Held S) (opens : Held S → Type 0) (closes : Held S → Result (Unit {0}) ProgramFault → Type 0) where
  -- what a turn did
  abbrev pub IsTurn : Turn S → Type 0
  IsTurn t = Worked g (Serve t.count) t.before t.after t.ended t.old t.new

  -- a turn begins on a desk that was opened for it, or on the one of the turn before, which can still be asked
  abbrev pub Begins : Bool → Held S → Held S → Type 0
  Begins true was old = opens old
  Begins false was old = Stays (state g was) (state g old) × (HasCleanDisk (state g old) → IsTrue (state g old).is_open)

  -- A turn begins behind these: the first is to serve all connections on the desk that was opened first, and each other those that the one before has left.
  abbrev pub BeginsBehind : ℕ → Known → List (Turn S) → Bool → ℕ → Known → Held S → Type 0
  BeginsBehind count before [] is_anew left now old = (left ≡ count) × (now ≡ before) × (is_anew ≡ true) × (old ≡ first)
  BeginsBehind count before (was ∷ more) is_anew left now old = (left_by was.ended ≡ Some left) × (now ≡ was.after) × Begins is_anew was.new old

  -- turns, the last one first
  abbrev pub AreTurns : ℕ → Known → List (Turn S) → Type 0
  AreTurns count before [] = Unit {0}
  AreTurns count before (t ∷ turns) = BeginsBehind count before turns t.is_anew t.count t.before t.old × IsTurn t × AreTurns count before turns

  -- It ended with the last turn, and the desk was closed; or the desk was opened again too many times in a row; or it didn't open.
  abbrev pub EndsTurns : List (Turn S) → Known → Result Outcome ProgramFault → Type 0
  EndsTurns [] after result = ⊥
  EndsTurns (t ∷ turns) after result =
      (after ≡ t.after)
      × (((left_by t.ended ≡ None) × ((closed : Result (Unit {0}) ProgramFault) × closes t.new closed × (result ≡ after_closing t.ended closed)))
      ⊎ ((rest : ℕ) × (left_by t.ended ≡ Some rest)
      × (((result ≡ t.ended) × (rest + 1 ≡ t.count) × (in_row (t ∷ turns) ≡ most_in_row)) ⊎ ((fault : ProgramFault) × ((fault ≡ Store) ⊎ (fault ≡ Memory)) × (result ≡ Err fault)))))

  -- so many connections were served in turns, on a desk that was opened first, and perhaps opened again behind a fault
  pub record ServedInTurns (count : ℕ) (before after : Known) (result : Result Outcome ProgramFault) : Type 0 where
    pub turns : List (Turn S)
    pub are : AreTurns count before turns
    pub few : in_row turns ≤ most_in_row
    pub ends : EndsTurns turns after result
