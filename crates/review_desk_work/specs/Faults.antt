-- The faults of the program, from those of its parts; and how a connection to a file was opened and closed.
use Rattle.std.specs.Prelude.{ℕ, ◌==◌, if◌then◌else◌, List, Result, Ok, Err, codes, ◌≡◌, ◌⊎◌, IsTrue}
use Rattle.sqlite.specs.{Closing.IsCopied, Files.file_state, Files.IsClosed, Files.IsOpened, Held.Held, Start.FindsIn}
use Rattle.sqlite.specs.State.{HasCleanDisk}
use Rattle.sqlite_disk.specs.declared.{Disk.Ghosts, Files.Files}
use Rattle.sqlite_store.specs.FileStore.{files, log_frames, view}
use Rattle.{sqlite_store.specs.declared.store.FileStore.FileStore, sqlite_trees.specs.View.IsClean}
use Rattle.sqlite_wal.specs.{Reads.AreClean, Recovery.Image}
use Rattle.review_http.specs.declared.connections.ConnectionsFault.{ConnectionsFault}
use Rattle.review_json_lines.specs.declared.fault.{Fault.Fault, Outcome.Outcome}
use Rattle.review_json_lines.specs.declared.fault.Outcome.TheVariants.{Complete, Incomplete}
use Rattle.review_sql.specs.declared.faults.DeskFault.{DeskFault}
use Rattle.review_desk_work.specs.declared.fault.ProgramFault.{ProgramFault}
use Rattle.review_desk_work.specs.declared.fault.ProgramFault.TheVariants.{NotADesk, WrongVersion, Store, ServedInPart, NotEmpty, Memory, Input, Output, Network, Damaged, Pattern, NoChange, NoProject, NoBranch}
use Rattle.review_desk_work.specs.declared.show_fault.ShowFault.{ShowFault}
use Rattle.review_json_lines.specs.declared.fault.Fault.TheVariants as line
use Rattle.review_http.specs.declared.connections.ConnectionsFault.TheVariants as connections
use Rattle.review_desk_work.specs.declared.show_fault.ShowFault.TheVariants as shown
use Rattle.review_sql.specs.declared.faults.DeskFault.TheVariants as desk

-- why a desk is not made or opened
abbrev pub desk_fault : DeskFault → ProgramFault
desk_fault desk.NotADesk = NotADesk
desk_fault desk.NotOurs = NotADesk
desk_fault desk.WrongVersion = WrongVersion
desk_fault desk.Store = Store
desk_fault desk.NotEmpty = NotEmpty
desk_fault desk.Memory = Memory

-- why lines are not all taken
abbrev pub line_fault : Fault → ProgramFault
line_fault line.Memory = Memory
line_fault line.Input = Input
line_fault line.Output = Output

-- why connections are not all served
abbrev pub connections_fault : ConnectionsFault → ProgramFault
connections_fault connections.Network = Network
connections_fault connections.Output = Output

-- why a page is not shown
abbrev pub show_fault : ShowFault → ProgramFault
show_fault shown.Memory = Memory
show_fault shown.Store = Store
show_fault shown.Damaged = Damaged
show_fault shown.Pattern = Pattern
show_fault shown.NoChange = NoChange
show_fault shown.NoProject = NoProject
show_fault shown.NoBranch = NoBranch
show_fault shown.Output = Output

-- how `apply` ends
abbrev pub lines_outcome : Result Outcome Fault → Result Outcome ProgramFault
lines_outcome (Ok outcome) = Ok outcome
lines_outcome (Err fault) = Err (line_fault fault)

-- how serving ends, by how many connections are left
abbrev pub serve_outcome : Result ℕ ConnectionsFault → Result Outcome ProgramFault
serve_outcome (Ok left) = if left == 0 then Ok Complete else Err (ServedInPart left)
serve_outcome (Err fault) = Err (connections_fault fault)

-- how `show` and `joined` end
abbrev pub shown_outcome : {X : Type 0} → Result X ShowFault → Result Outcome ProgramFault
shown_outcome (Ok done) = Ok Complete
shown_outcome (Err fault) = Err (show_fault fault)

-- what standard error is told of a fault, behind the program's name
abbrev pub fault_text : ProgramFault → List ℕ
fault_text NotADesk = codes "not a desk"
fault_text WrongVersion = codes "wrong version"
fault_text Store = codes "store fault"
fault_text (ServedInPart left) = codes "store fault"
fault_text NotEmpty = codes "not empty"
fault_text Memory = codes "out of memory"
fault_text Input = codes "input fault"
fault_text Output = codes "output fault"
fault_text Network = codes "network fault"
fault_text Damaged = codes "damaged"
fault_text Pattern = codes "pattern"
fault_text NoChange = codes "no such change"
fault_text NoProject = codes "no such project"
fault_text NoBranch = codes "no such branch"

-- what is told of a job whose file is closed, or could not be: its own fault before that of closing
abbrev pub after_closing : {X Y : Type 0} → Result X ProgramFault → Result Y ProgramFault → Result X ProgramFault
after_closing (Err fault) closed = Err fault
after_closing (Ok done) (Ok closed) = Ok done
after_closing (Ok done) (Err fault) = Err fault

-- the exit status: 0 where all was done, 1 where a line was no delivery or was not taken, or a fault came
abbrev pub status_of : Result Outcome ProgramFault → ℕ
status_of (Ok Complete) = 0
status_of (Ok Incomplete) = 1
status_of (Err fault) = 1

-- ---- a connection to a file

-- what is told once a job is done: that it is, or that it couldn't be said; else why it isn't
abbrev pub IsTold : {X : Type 0} → Result X ProgramFault → Result Outcome ProgramFault → Type 0
IsTold (Ok done) told = (told ≡ Ok Complete) ⊎ (told ≡ Err Output)
IsTold (Err fault) told = told ≡ Err fault

module _ {D : Type 0} {g : Ghosts D} where
  -- the connection was opened over these contents, and finds the database that they hold
  pub record OpenedFrom (image : Image) (conn : Held (FileStore D g)) : Type 0 where
    pub opened : HasCleanDisk (file_state conn) → IsOpened conn
    pub found : HasCleanDisk (file_state conn) → FindsIn image (file_state conn)

  -- the log was copied into the file, as it reads now and after a stop, and both were closed
  abbrev pub ClosedWell : Held (FileStore D g) → Type 0
  ClosedWell conn =
      (last : FileStore D g) × (closed : Files D) × (files last ≡ (closed.log, closed.db)) × IsClosed conn last × (IsClean (view last) → IsTrue (view last).is_open × (log_frames last ≡ 0))
      × (AreClean g closed.log closed.db → IsCopied conn closed)

  -- how it was closed: well, or the store failed or there was no memory, and a stop leaves nothing that it couldn't leave before
  abbrev pub ClosedAs : Held (FileStore D g) → Result (Unit {0}) ProgramFault → Type 0
  ClosedAs conn (Ok done) = ClosedWell conn
  ClosedAs conn (Err fault) = ((last : FileStore D g) × IsClosed conn last) × ((fault ≡ Store) ⊎ (fault ≡ Memory))

  -- this was done on a connection to a file, which was closed then; the fault of what was done is told, or that of closing
  abbrev pub ThenClosed : {X : Type 0} → (Held (FileStore D g) → Result X ProgramFault → Type 0) → Result X ProgramFault → Type 0
  ThenClosed {X} Did job = (last : Held (FileStore D g)) × (ended : Result X ProgramFault) × Did last ended × (closed : Result (Unit {0}) ProgramFault) × ClosedAs last closed × (job ≡ after_closing ended closed)
