-- Why a decision isn't made, and what one names.
use Rattle.std.specs.Ordering.{nat_cmp}
use Rattle.std.specs.Prelude.{ℕ, ◌≡◌, ◌⊎◌, ◌==◌, true, if◌then◌else◌, List, [], ◌∷◌, Option, Some, None, find}
use Rattle.review_table.specs.Rows.{NamesOnce}
use Rattle.review_words.specs.{History.Entry, History.is_project, declared.command.Command.Command}
use Rattle.review_words.specs.declared.command.Command.TheVariants.{PutProject, CreateChange, OnChange, Submit}
use Rattle.review_words.specs.declared.{command.Query.Query, reply.NotTaken.NotTaken as Cause}
use Rattle.review_words.specs.declared.reply.NotTaken.TheVariants.{Memory, Pattern, Damaged}
use Rattle.review_words.specs.declared.reply.Reply.{Reply, TheVariants.Done, TheVariants.Refused}
use Rattle.review_file_rules.specs.{Inherited.IsEffective, Reading.IsReadFault, Reading.named_parent}
use Rattle.review_core_rules.specs.Seen.{vote_cmp}
use Rattle.review_machine_rows.specs.{Answer.IsHistory, Changes.Reading, Changes.change, Changes.texts_of}
use Rattle.review_machine_rows.specs.{Files.File, Files.HasPattern, Rows.member_cmp}
use Rattle.review_machine_rows.specs.Steps.{Topic, OfCommand, OfQuery, asks_file, needs_file, project_for, texts_above}
use Rattle.review_machine_rows.specs.View.{AreEnough}
use Rattle.review_machine_rows.specs.declared.rows.{ChangeEdit.ChangeEdit, Delta.Delta, Rows.Rows}
use Rattle.review_words.specs.declared.command.Query.TheVariants as asked
use Rattle.review_file_rules.specs.declared.fault.ReadFault.TheVariants as read

-- the project by whose file one that is put is judged: the project itself, or for one that gets its first file the parent that this names
abbrev pub putting_project : List Entry → List ℕ → List ℕ → Option (List ℕ)
putting_project h project text = if is_project h project then Some project else named_parent text

-- the project by whose file a command is judged, where one is: a PutProject, a CreateChange, a Submit, and of requests on a change an upload, a review with values on labels, Abandon and Restore
abbrev pub judging_project : Reading → List Entry → Command → Option (List ℕ)
judging_project reading h (PutProject project text) = putting_project h project text
judging_project reading h (CreateChange new) = Some new.project
judging_project reading h (OnChange n command) = project_for (needs_file command) (change reading h n)
judging_project reading h (Submit n) = project_for true (change reading h n)
judging_project reading h command = None

-- the project by whose file a question is answered, where one is: only how its requirements stand needs that of a change
abbrev pub asking_project : Reading → List Entry → Query → Option (List ℕ)
asking_project reading h (asked.OnChange n query) = project_for (asks_file query) (change reading h n)
asking_project reading h query = None

-- the project by whose file a command is judged, or a question answered
abbrev pub topic_project : Reading → List Entry → Topic → Option (List ℕ)
topic_project reading h (OfCommand command) = judging_project reading h command
topic_project reading h (OfQuery query) = asking_project reading h query

-- one of these texts has a pattern
abbrev pub SomePattern : List (List ℕ) → Type 0
SomePattern [] = ⊥
SomePattern (text ∷ texts) = HasPattern text ⊎ SomePattern texts

-- the file of the project has a pattern, or that of an ancestor
abbrev pub HasPatternIn : List Entry → Option (List ℕ) → Type 0
HasPatternIn h None = ⊥
HasPatternIn h (Some project) = SomePattern (texts_of h project)

-- a pattern that the engine may refuse in the text that a command puts, all before it being good
abbrev pub PutsPattern : Command → Type 0
PutsPattern (PutProject project text) = IsReadFault text read.Pattern
PutsPattern command = ⊥

-- The command reads a pattern that the engine may refuse: in the file that is put, in that of the project by which it is judged, or in that of an ancestor.
abbrev pub ReadsPattern : Reading → List Entry → Command → Type 0
ReadsPattern reading h command = PutsPattern command ⊎ HasPatternIn h (judging_project reading h command)

-- What an answer rests on beside the rows: that of a submit, and that to the question of a branch, on what every history keeps.
abbrev pub RestsOn : Topic → List Entry → Type 0
RestsOn (OfCommand (Submit change)) h = IsHistory h
RestsOn (OfQuery (asked.Branch project branch)) h = IsHistory h
RestsOn topic h = Unit {0}

-- The rows are those of no history.
abbrev pub IsOfNoHistory : ℕ → Topic → Option File → Rows → Type 0
IsOfNoHistory caller topic file rows = (reading : Reading) (h : List Entry) → IsHistory h → AreEnough reading h caller topic file rows → ⊥

-- Why a command is not decided: want of memory, a pattern that the engine may refuse in the file that it puts or in one that this goes on from, or rows that are those of no history.
abbrev pub IsUndecided : ℕ → Command → Option File → Rows → Cause → Type 0
IsUndecided caller command file rows Memory = Unit {0}
IsUndecided caller command file rows Pattern = PutsPattern command ⊎ SomePattern (texts_above rows command)
IsUndecided caller command file rows Damaged = IsOfNoHistory caller (OfCommand command) file rows
IsUndecided caller command file rows _ = ⊥

-- Why a question is not answered: want of memory, or rows that are those of no history.
abbrev pub IsUnshown : ℕ → Query → Option File → Rows → Cause → Type 0
IsUnshown caller query file rows Memory = Unit {0}
IsUnshown caller query file rows Damaged = IsOfNoHistory caller (OfQuery query) file rows
IsUnshown caller query file rows _ = ⊥

-- Why the file of a project is not read: want of memory, a pattern that the engine refuses in one of the texts of its line, or texts of which one spells no file.
abbrev pub IsUnread : List (List ℕ) → Cause → Type 0
IsUnread texts Memory = Unit {0}
IsUnread texts Pattern = SomePattern texts
IsUnread (text ∷ above) Damaged = (f : File) → IsEffective (text ∷ above) f → ⊥
IsUnread texts _ = ⊥

-- an answer or a refusal
abbrev pub IsDoneOrRefused : Reply → Type 0
IsDoneOrRefused (Done a) = Unit {0}
IsDoneOrRefused (Refused r) = Unit {0}
IsDoneOrRefused _ = ⊥

-- an edit of a change names each of its rows once
pub record NamesRowsOnce (e : ChangeEdit) : Type 0 where
  pub patches : NamesOnce nat_cmp e.patches.items
  pub votes : NamesOnce vote_cmp e.votes.items
  pub roles : NamesOnce nat_cmp e.roles.items
  pub comments : NamesOnce nat_cmp e.comments.items
  pub attention : NamesOnce nat_cmp e.attention.items

-- each change stands once, and each of its rows
abbrev pub NamesChangesOnce : List ChangeEdit → Type 0
NamesChangesOnce [] = Unit {0}
NamesChangesOnce (e ∷ es) = (find (λ x. x.change == e.change) es ≡ None) × NamesRowsOnce e × NamesChangesOnce es

-- a delta names each key once
abbrev pub NamesEachOnce : Delta → Type 0
NamesEachOnce delta = NamesOnce nat_cmp delta.accounts.items × NamesOnce member_cmp delta.members.items × NamesChangesOnce delta.changes.items
