-- What is done with the files of projects.
use Rattle.std.specs.{Bool.MatchBool, Option.option_map_or}
use Rattle.std.specs.Prelude.{[], Bool, ◌≡◌, ℕ, List, Some, None, Option, true, ◌∷◌, ◌++◌, nat_lt, not, ◌||◌, false, is_some, length}
use Rattle.review_words.specs.declared.faults.FileFault.TheVariants.{UnknownLabel}
use Rattle.review_words.specs.declared.reply.{Answer.TheVariants.Nothing, NotTaken.NotTaken as Cause}
use Rattle.review_words.specs.declared.reply.NotTaken.TheVariants.{Memory, Pattern, Damaged}
use Rattle.review_words.specs.declared.reply.Refusal.{Refusal}
use Rattle.review_words.specs.declared.reply.Refusal.TheVariants.{NoParent, ParentDepth, LabelNarrowed, Limit, BadFile, ParentFixed}
use Rattle.review_words.specs.declared.reply.Reply.{Reply, TheVariants.Done, TheVariants.Refused}
use Rattle.review_file_rules.specs.Inherited.{inherit, inherits_unknown_label}
use Rattle.review_file_rules.specs.{Rights.covers, declared.fault.ReadFault.ReadFault}
use Rattle.review_machine_rows.specs.{Answer.is_same_parent, Answer.first_refusal, Files.File, Known.known, Known.is_so}
use Rattle.review_machine_rows.specs.{Lines.most_depth, Steps.HasFile, Steps.texts_in, Steps.own_in}
use Rattle.review_machine_rows.specs.declared.rows.{Delta.Delta, Rows.Rows, StoredFile.StoredFile}
use Rattle.review_machine_accounts.specs.Decisions.{IsDelta, IsEmpty, no_edits}
use Rattle.review_machine_rows.specs.declared.rows.Want.TheVariants as want
use Rattle.review_machine_rows.specs.declared.rows.Counted.TheVariants as counted
use Rattle.review_file_rules.specs.declared.fault.ReadFault.TheVariants as read

-- whether rows know of room for one more project
abbrev pub room_in : Rows → Bool
room_in rows = is_so (known rows (want.Room counted.Projects))

-- Why a stored line, which should spell a file, is not read: for a pattern that the engine refuses, or for a fault of a text, which no file's text has.
abbrev pub unread_cause : ReadFault → Cause
unread_cause read.Memory = Memory
unread_cause read.Pattern = Pattern
unread_cause (read.File fault) = Damaged

-- why a file that is put is not read
abbrev pub IsReadCause : ReadFault → Cause → Type 0
IsReadCause fault Memory = fault ≡ read.Memory
IsReadCause fault Pattern = fault ≡ read.Pattern
IsReadCause fault _ = ⊥

-- the file of this project is put, and nothing else is done
abbrev pub PutsFile : List ℕ → StoredFile → Delta → Type 0
PutsFile project file delta = IsDelta (record no_edits { file = Some (record { key = project; row = file }) }) delta

-- whether a project has this parent, as rows know its file: one that has no file yet may have any
abbrev pub keeps_parent : Option StoredFile → Option (List ℕ) → Bool
keeps_parent effective parent = option_map_or (λ f. is_same_parent f.parent parent) effective true

-- the checks of the parent that a file names, by whether it names one, and how many texts its line has
abbrev pub parent_checks : Bool → ℕ → List (Bool × Refusal)
parent_checks named depth = (not named || nat_lt 0 depth, NoParent) ∷ (nat_lt depth most_depth, ParentDepth) ∷ []

-- the effective file of a project that gets this own file, by that of its parent, if it has one
abbrev pub heir : Option File → File → File
heir above own = option_map_or (λ parent. inherit parent own) above own

-- whether an own requirement names a label that isn't among the effective ones; of a file without a parent its text was asked that
abbrev pub has_unknown : Option File → File → Bool
has_unknown above own = option_map_or (λ parent. inherits_unknown_label parent own) above false

-- the checks of a new effective file by the one that the project has, if any, and whether there is room for one more project
abbrev pub kept_checks : Option File → Bool → File → List (Bool × Refusal)
kept_checks effective room new = (option_map_or (λ f. covers f new) effective true, LabelNarrowed) ∷ (is_some effective || room, Limit) ∷ []

-- the checks of an own file that keeps the project's parent, by the line of the parent and its effective file
abbrev pub heir_checks : Bool → ℕ → Option File → File → Option File → Bool → List (Bool × Refusal)
heir_checks named depth above own effective room = parent_checks named depth ++ (not (has_unknown above own), BadFile UnknownLabel) ∷ kept_checks effective room (heir above own)

-- the file is put, or refused
abbrev pub IsFilePut : Option Refusal → List ℕ → StoredFile → Delta → Reply → Type 0
IsFilePut None project file delta reply = (reply ≡ Done Nothing) × PutsFile project file delta
IsFilePut (Some refusal) project file delta reply = (reply ≡ Refused refusal) × IsEmpty delta

-- a file with this parent is put or refused, by the line of the parent as rows know it
abbrev pub IsPutBelow : Rows → Option File → List ℕ → StoredFile → File → Delta → Reply → Type 0
IsPutBelow rows effective project file own delta reply =
    (above : Option File) × HasFile (texts_in rows file.parent) above
    × IsFilePut (first_refusal (heir_checks (is_some file.parent) (length (texts_in rows file.parent)) above own effective (room_in rows))) project file delta reply

-- a file is put or refused, by what rows know
abbrev pub IsPut : Rows → Option File → List ℕ → StoredFile → File → Delta → Reply → Type 0
IsPut rows effective project file own delta reply =
    MatchBool (keeps_parent (own_in rows project) file.parent) (IsPutBelow rows effective project file own delta reply) (IsFilePut (Some ParentFixed) project file delta reply)
