-- What is gathered of the tables before a command or a question is answered.
use Rattle.std.specs.Prelude.{[], ◌≡◌, ◌⊎◌, Option, None, ℕ, List, Result, Ok, Err}
use Rattle.review_words.specs.{History.Entry, declared.reply.NotTaken.NotTaken as Cause}
use Rattle.review_words.specs.declared.reply.NotTaken.TheVariants.{Memory, Store, Damaged, Pattern, Full}
use Rattle.review_words.specs.declared.reply.Reply.TheVariants.{NotTaken}
use Rattle.review_machine_rows.specs.{Changes.Reading, Changes.Reads, Decisions.HasPatternIn, Decisions.topic_project}
use Rattle.review_machine_rows.specs.{Files.File, Known.known, Known.Agrees, Rows.Tables}
use Rattle.review_machine_rows.specs.Shelf.{AddsNoStop, BlamesTables, CountsFaults, KeepsTables, Shown, Shows, IsDamaged, LeavesBy}
use Rattle.review_machine_rows.specs.{Steps.Topic, Steps.HasFile, Steps.next, Steps.texts_for, View.IsView}
use Rattle.review_machine_rows.specs.declared.{rows.Rows.Rows, rows.Want.Want, shelf.ShelfFault.ShelfFault}
use Rattle.review_machine_deliveries.specs.Replies.{CountsReply}

-- what was gathered so far: nothing, or what is so in the tables
abbrev pub IsSoFar : Option Tables → Rows → Type 0
IsSoFar tables rows = ((w : Want) → known rows w ≡ None) ⊎ Shows tables (λ t. Agrees t rows)

-- nothing is left to ask, and the file is the one to be read
abbrev pub IsAllAsked : ℕ → Topic → Option File → Rows → Type 0
IsAllAsked caller topic file rows = (next file rows caller topic ≡ []) × HasFile (texts_for rows topic) file

-- for each list of entries whose tables these are, the project by whose file a command is judged or a question answered has a pattern in its file, or in that of an ancestor
abbrev pub IsJudgedByPattern : Topic → Tables → Type 0
IsJudgedByPattern topic t = (reading : Reading) (h : List Entry) → Reads reading h → IsView h t → HasPatternIn h (topic_project reading h topic)

-- Why not all is gathered: want of memory, a fault of the store, tables that are those of no history, or a pattern that the engine may refuse.
abbrev pub IsUngathered : Topic → Option Tables → Cause → Type 0
IsUngathered topic tables Memory = Unit {0}
IsUngathered topic tables Store = Unit {0}
IsUngathered topic tables Damaged = Shows tables IsDamaged
IsUngathered topic tables Pattern = Shows tables (IsJudgedByPattern topic)
IsUngathered topic tables Full = ⊥

-- the tables stay; only a store fault may shut the store
abbrev pub LeavesTables : {X : Type 0} → Result X Cause → Option Tables → Option Tables → Type 0
LeavesTables (Ok x) old new = new ≡ old
LeavesTables (Err cause) old new = LeavesBy cause old new

-- the count of faults stays; for the cause Store it rose, or stands at its greatest value
abbrev pub CountsCause : {X : Type 0} → Result X Cause → ℕ → ℕ → Type 0
CountsCause (Ok x) before after = after ≡ before
CountsCause (Err cause) before after = CountsReply (NotTaken cause) before after

-- What look-ups leave of a shelf: where it was honest, its tables, but that a fault of the store may shut them, and what a stop may leave; damage is told only of
-- tables that are those of no history, and a fault of the store only where one was counted.
pub record OnlyLooks {X : Type 0} (result : Result X ShelfFault) (old new : Shown) : Type 0 where
  pub honest : new.is_honest → old.is_honest
  pub tables : new.is_honest → KeepsTables result old.tables new.tables
  pub damaged : new.is_honest → BlamesTables result old.tables
  pub stops : new.is_honest → AddsNoStop old new
  pub counted : CountsFaults result old.faults new.faults

-- What look-ups leave of a shelf where what they found was then judged: the same, with a cause in place of a fault.
pub record OnlyGathers {X : Type 0} (result : Result X Cause) (old new : Shown) : Type 0 where
  pub honest : new.is_honest → old.is_honest
  pub tables : new.is_honest → LeavesTables result old.tables new.tables
  pub stops : new.is_honest → AddsNoStop old new
  pub counted : CountsCause result old.faults new.faults
