-- What a shelf shows, and what its calls do.
use Rattle.std.specs.Prelude.{ℕ, ◌+◌, ◌<◌, ◌≡◌, List, Option, Some, None, Result, Ok, Err, ◌⊎◌, ◌↔◌, nat_lt, true, false, if◌then◌else◌}
use Rattle.review_words.specs.{History.Entry, History.Identity, History.is_same, declared.reply.NotTaken.NotTaken}
use Rattle.review_words.specs.declared.reply.NotTaken.TheVariants.{Memory, Store, Damaged}
use Rattle.review_machine_rows.specs.Answer.{IsHistory}
use Rattle.review_machine_rows.specs.Rows.{Key, Count, ClosedEpochs, AnswerRow, Stored, Answered, Tables, after, count_after, is_below, kept_row}
use Rattle.review_machine_rows.specs.View.{IsView}
use Rattle.review_machine_rows.specs.declared.{rows.Delta.Delta, rows.Recalled.Recalled, shelf.ShelfFault.ShelfFault}
pub use Rattle.review_machine_rows.specs.Count.{greatest_count, one_more}
use Rattle.review_machine_rows.specs.declared.rows.Recalled.TheVariants as recalled
use Rattle.review_machine_rows.specs.declared.shelf.ShelfFault.TheVariants as fault

-- why a delivery is not taken where the shelf has a fault
abbrev pub cause_of : ShelfFault → NotTaken
cause_of fault.Memory = Memory
cause_of fault.Store = Store
cause_of fault.Damaged = Damaged

-- what proofs see of a shelf
pub record Shown : Type 1 where
  -- the tables in use; none once a fault has shut the store for good
  pub tables : Option Tables
  -- so far the store returned what was written to it
  pub is_honest : Type 0
  -- how many calls the store refused
  pub faults : ℕ
  -- what a stop at this moment may leave
  pub stops : Tables → Type 0

-- it is not shut, and its tables are so
abbrev pub Shows : Option Tables → (Tables → Type 0) → Type 0
Shows None IsSo = ⊥
Shows (Some t) IsSo = IsSo t

-- the tables are those of the history, where it is not shut
abbrev pub Views : List Entry → Option Tables → Type 0
Views h None = Unit {0}
Views h (Some t) = IsView h t

-- the tables stay, or the store is shut
abbrev pub StaysOrShuts : Option Tables → Option Tables → Type 0
StaysOrShuts old new = (new ≡ old) ⊎ (new ≡ None)

-- What is left where something was not taken for a cause: the tables; only a store fault may shut the store.
abbrev pub LeavesBy : NotTaken → Option Tables → Option Tables → Type 0
LeavesBy Store old new = StaysOrShuts old new
LeavesBy cause old new = new ≡ old

-- the tables are those of no history
abbrev pub IsDamaged : Tables → Type 0
IsDamaged t = (h : List Entry) → IsHistory h → IsView h t → ⊥

-- the epoch is closed in the tables: it is below the least open one
abbrev pub IsClosedIn : Tables → ℕ → Type 0
IsClosedIn t epoch = nat_lt epoch (t.count ClosedEpochs) ≡ true

-- the epoch is open in the tables, and this is stored under the identity
abbrev pub Answers : Tables → Identity → Option Stored → Type 0
Answers t i stored = (nat_lt i.epoch (t.count ClosedEpochs) ≡ false) × (t.answer i ≡ stored)

-- what is known of an identity: the stored request of it, or that it is new, where its epoch is open, and otherwise that it is closed
abbrev pub IsRecalled : Tables → Identity → Recalled → Type 0
IsRecalled t i (recalled.Kept k) = Answers t i (Some (Answered (kept_row k)))
IsRecalled t i recalled.Fresh = Answers t i None
IsRecalled t i recalled.Closed = IsClosedIn t i.epoch

-- The delta is applied and the request is stored; then, where the delta names an epoch, what is kept of lower ones is given up.
pub record IsCommitted (t : Tables) (delta : Delta) (kept : AnswerRow) (new : Tables) : Type 0 where
  pub row_is : (k : Key) → new.row k ≡ after delta k (t.row k)
  pub count_is : (c : Count) → new.count c ≡ count_after delta t.row c (t.count c)
  pub answer_is : (i : Identity) → new.answer i ≡ (if is_below delta.least_epoch i.epoch then None else (if is_same kept.identity i then Some (Answered kept) else t.answer i))
  pub version : new.version ≡ t.version
  pub requests : new.requests ≡ t.requests + 1

-- the count of faults rises where a call answers Store, but not beyond its greatest value, and stays for any other error
abbrev pub IsCounted : ShelfFault → ℕ → ℕ → Type 0
IsCounted fault.Memory before after = after ≡ before
IsCounted fault.Store before after = (before < after) ⊎ ((before ≡ greatest_count) × (after ≡ before))
IsCounted fault.Damaged before after = after ≡ before

-- the count of faults never falls, rises only in a call that answers Store, and stops at its greatest value
abbrev pub CountsFaults : {X : Type 0} → Result X ShelfFault → ℕ → ℕ → Type 0
CountsFaults (Ok x) before after = after ≡ before
CountsFaults (Err e) before after = IsCounted e before after

-- a call that only reads
abbrev pub KeepsTables : {X : Type 0} → Result X ShelfFault → Option Tables → Option Tables → Type 0
KeepsTables (Ok x) old new = new ≡ old
KeepsTables (Err e) old new = LeavesBy (cause_of e) old new

-- a call that failed
abbrev pub LeavesUndone : {X : Type 0} → Result X ShelfFault → Option Tables → Option Tables → Type 0
LeavesUndone (Ok x) old new = Unit {0}
LeavesUndone (Err e) old new = LeavesBy (cause_of e) old new

-- Damaged is answered only where the tables are those of no history
abbrev pub Blames : ShelfFault → Option Tables → Type 0
Blames fault.Memory old = Unit {0}
Blames fault.Store old = Unit {0}
Blames fault.Damaged old = Shows old IsDamaged

-- an error of a call blames the tables only where they are damaged
abbrev pub BlamesTables : {X : Type 0} → Result X ShelfFault → Option Tables → Type 0
BlamesTables (Ok x) old = Unit {0}
BlamesTables (Err e) old = Blames e old

-- a stop leaves nothing that it could not leave before
abbrev pub AddsNoStop : Shown → Shown → Type 0
AddsNoStop old new = (t : Tables) → new.stops t → old.stops t

-- a stop leaves the tables in use and no others
abbrev pub StopLeavesOwnTables : Shown → Type 0
StopLeavesOwnTables s = (t : Tables) → s.stops t → s.tables ≡ Some t

-- A shelf in memory, which never faults and has no store to fail it. A stop is taken to leave its tables, as if the memory outlived it:
-- that is of use only below a shelf that counts on it.
abbrev pub in_memory : Tables → Shown
in_memory t = record { tables = Some t; is_honest = Unit {0}; faults = 0; stops = λ left. left ≡ t }

-- two shelves show the same
pub record ShowsAs (one other : Shown) : Type 0 where
  pub tables : one.tables ≡ other.tables
  pub honest : one.is_honest ↔ other.is_honest
  pub faults : one.faults ≡ other.faults
  pub stops : (t : Tables) → one.stops t ↔ other.stops t
