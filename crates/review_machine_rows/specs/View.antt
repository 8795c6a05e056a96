-- The tables of a history, and what was decided.
use Rattle.std.specs.Prelude.{ℕ, ◌+◌, ◌≡◌, List, [], ◌∷◌, Option, Some, None, length, option_map, if◌then◌else◌}
use Rattle.review_words.specs.History.{Entry, Identity, entry_of, is_same, name_of, is_listed, project_count, bases, base_count, is_closed, least_open}
use Rattle.review_words.specs.Texts.{content_text, reply_text}
use Rattle.review_words.specs.declared.{command.Command.Command, reply.Reply.Reply}
use Rattle.review_machine_rows.specs.Answer.{IsAnswerBy, IsAnswerAt}
use Rattle.review_machine_rows.specs.Changes.{Reading, Reads, change, own_of}
use Rattle.review_machine_rows.specs.{Files.File, Known.at_place, Known.part_of, Known.Agrees}
use Rattle.review_machine_rows.specs.Rows.{Key, AccountKey, MemberKey, FileKey, BaseKey, PartKey, OddKey, Row, AccountRow, MemberRow, FileRow, BaseRow, APart, Count, Projects, BasesOf, ClosedEpochs, AnswerRow, Stored, Answered, Tables, after, count_after}
use Rattle.review_machine_rows.specs.Steps.{Topic, HasFile, next, texts_for}
use Rattle.review_machine_rows.specs.declared.rows.{Delta.Delta, Rows.Rows}

-- the row of a key that the history says, by what is read of the texts that were put
abbrev pub fact : Reading → List Entry → Key → Option Row
fact reading h (AccountKey number) = option_map AccountRow (name_of h number)
fact reading h (MemberKey group account) = if is_listed h group account then Some MemberRow else None
fact reading h (FileKey project) = option_map FileRow (own_of h project)
fact reading h (BaseKey project branch place) = option_map BaseRow (at_place (bases h project branch) place)
fact reading h (PartKey n part) = option_map APart (part_of (change reading h n) part)
fact reading h (OddKey o) = None

-- a count that the history says
abbrev pub counted : List Entry → Count → ℕ
counted h Projects = project_count h
counted h (BasesOf project) = base_count h project
counted h ClosedEpochs = least_open h

-- the row of an entry, which has its number
abbrev pub answer_row : Entry → ℕ → AnswerRow
answer_row e number = record { identity = e.identity; request = number; content = content_text e.command; reply = reply_text e.reply }

-- what is stored under an identity
abbrev pub stored_answer : List Entry → Identity → Option Stored
stored_answer [] i = None
stored_answer (e ∷ h) i = if is_same e.identity i then Some (Answered (answer_row e (length h + 1))) else stored_answer h i

-- what is kept under an identity: nothing once its epoch is closed
abbrev pub kept_answer : List Entry → Identity → Option Stored
kept_answer h i = if is_closed h i.epoch then None else stored_answer h i

-- the version of the tables, which changes with their form and not with the rules by which requests are answered
abbrev pub tables_version : ℕ
tables_version = 3

-- the tables of a history, by what is read of the texts that were put
abbrev pub view : Reading → List Entry → Tables
view reading h = record { row = fact reading h; count = counted h; answer = kept_answer h; version = tables_version; requests = length h }

-- the tables have just what the history says, by what is read of the texts that were put
pub record IsViewBy (reading : Reading) (h : List Entry) (t : Tables) : Type 0 where
  pub row_is : (k : Key) → t.row k ≡ fact reading h k
  pub count_is : (c : Count) → t.count c ≡ counted h c
  pub answer_is : (i : Identity) → t.answer i ≡ kept_answer h i
  pub version : t.version ≡ tables_version
  pub requests : t.requests ≡ length h

-- The tables have just what the history says, where each text that was put is read right; a history has such a reading.
abbrev pub IsView : List Entry → Tables → Type 0
IsView h t = (reading : Reading) → Reads reading h → IsViewBy reading h t

-- The rows, and the file that was read, decide what is to be answered after the history: what they know is so, and nothing is left to ask.
pub record AreEnough (reading : Reading) (h : List Entry) (caller : ℕ) (topic : Topic) (file : Option File) (rows : Rows) : Type 0 where
  pub reads : Reads reading h
  pub agree : Agrees (view reading h) rows
  pub file_is : HasFile (texts_for rows topic) file
  pub nothing_left : next file rows caller topic ≡ []

-- The reply is an answer after the history, and the delta turns its rows and counts into those of the history with the entry. So it is for each command but CloseEpoch.
pub record IsDecided (reading : Reading) (h : List Entry) (caller : ℕ) (command : Command) (delta : Delta) (reply : Reply) : Type 0 where
  pub reply_is : IsAnswerBy reading h caller command reply
  pub row_is : (epoch : ℕ) (id : List ℕ) (k : Key) → fact reading (entry_of caller epoch id command reply ∷ h) k ≡ after delta k (fact reading h k)
  pub count_is : (epoch : ℕ) (id : List ℕ) (c : Count) → counted (entry_of caller epoch id command reply ∷ h) c ≡ count_after delta (fact reading h) c (counted h c)

-- The same of any command, in a request of this epoch.
pub record IsDecidedAt (reading : Reading) (h : List Entry) (caller epoch : ℕ) (command : Command) (delta : Delta) (reply : Reply) : Type 0 where
  pub reply_is : IsAnswerAt reading h caller epoch command reply
  pub row_is : (id : List ℕ) (k : Key) → fact reading (entry_of caller epoch id command reply ∷ h) k ≡ after delta k (fact reading h k)
  pub count_is : (id : List ℕ) (c : Count) → counted (entry_of caller epoch id command reply ∷ h) c ≡ count_after delta (fact reading h) c (counted h c)
