-- Which words ask for which job, and why others ask for none.
use Rattle.std.specs.List.{list_any}
use Rattle.std.specs.Prelude.{ℕ, Bool, ◌||◌, List, [], ◌∷◌, map, Option, Some, None, codes, if◌then◌else◌, Result, Err, ◌≡◌, ◌⊎◌, ◌&&◌, nat_le, ok_or, option_and_then, Ok}
use Rattle.std.specs.Str.{bytes_eq}
use Rattle.clap.specs.Words.{Kinds, Text, Row, first_of, subcommand_of, fault_of}
use Rattle.clap.specs.declared.error.kind.ErrorKind.{ErrorKind}
use Rattle.review_names.specs.{Forms.is_slashed_name, Forms.is_within, Forms.most_changes, Numerals.number_of}
use Rattle.review_desk_work.specs.{CommandLine.desk, declared.job.Job.Job}
use Rattle.review_desk_work.specs.declared.job.Job.TheVariants.{Init, Migrate, Apply, Serve, Show, Joined}
use Rattle.review_desk_work.specs.declared.{job.Place.Place, words_fault.WordsFault.WordsFault}
use Rattle.clap.specs.declared.error.kind.ErrorKind.TheVariants as kind
use Rattle.review_desk_work.specs.declared.words_fault.WordsFault.TheVariants as fault
use Rattle.review_desk_work.specs.declared.job.Place.TheVariants as place

-- ---- why words give no job, and what is told of it

-- a word is the name of a command
abbrev pub is_command : Text → Bool
is_command word = list_any (bytes_eq word) (map (λ s. s.name) desk.subs)

-- a word asks for help where a command may stand
abbrev pub asks_help : Text → Bool
asks_help word = bytes_eq word (codes "help") || (bytes_eq word (codes "-h") || bytes_eq word (codes "--help"))

-- the fault of the first word, where it is no command
abbrev pub command_fault : List Text → Option WordsFault
command_fault [] = Some fault.NoCommand
command_fault (word ∷ rest) =
    if is_command word then None else if asks_help word then Some fault.Help else Some fault.UnknownCommand

-- the fault of words that the command line refuses by an error of this kind
abbrev pub fault_of_kind : ErrorKind → WordsFault
fault_of_kind kind.DisplayHelp = fault.Help
fault_of_kind kind.InvalidValue = fault.NoValue
fault_of_kind kind.ArgumentConflict = fault.RepeatedOption
fault_of_kind kind.OutOfMemory = fault.Memory
fault_of_kind _ = fault.UnknownWord

-- the fault of words that the command line refuses, if it does, by the first of the kinds that its error may have: each gives the same fault
abbrev pub refusal : Kinds → Option WordsFault
refusal [] = None
refusal (k ∷ ks) = Some (fault_of_kind k)

-- a fault, or else what was found
abbrev pub unless : {X : Type 0} → Option WordsFault → Result X WordsFault → Result X WordsFault
unless None found = found
unless (Some fault) found = Err fault

-- what standard error is told of a fault, behind the program's name; a call for help is told nothing but the usage
abbrev pub fault_text : WordsFault → Option (List ℕ)
fault_text fault.Help = None
fault_text fault.NotUtf8 = Some (codes "a word is not UTF-8")
fault_text fault.NoCommand = Some (codes "a command is missing")
fault_text fault.UnknownCommand = Some (codes "no such command")
fault_text fault.UnknownWord = Some (codes "no such option, or a word too many")
fault_text fault.NoValue = Some (codes "an option has no value")
fault_text fault.RepeatedOption = Some (codes "an option is given twice")
fault_text fault.File = Some (codes "FILE is missing")
fault_text fault.Port = Some (codes "--port wants a number from 1 to 65535")
fault_text fault.Count = Some (codes "--count wants a number from 0 to 4294967295")
fault_text fault.Change = Some (codes "--change wants a number from 1 to 1000000000")
fault_text fault.Project = Some (codes "--project wants the name of a project")
fault_text fault.Branch = Some (codes "--branch wants the name of a branch")
fault_text fault.Memory = Some (codes "out of memory")

-- ---- jobs

-- a job with its values, where a file is its text
pub data Spelled : Type 0 where
  to_init : Text → Spelled
  to_migrate : Text → Spelled
  to_apply : Text → Spelled
  to_serve : Text → ℕ → ℕ → Spelled
  to_show : Text → ℕ → Spelled
  to_join : Text → Text → Text → Spelled

-- the values of a job
abbrev pub spelled : Job → Spelled
spelled (Init file) = to_init file.now
spelled (Migrate file) = to_migrate file.now
spelled (Apply file) = to_apply file.now
spelled (Serve file port count) = to_serve file.now port count
spelled (Show file change) = to_show file.now change
spelled (Joined file project branch) = to_join file.now project branch

-- where the tables of a desk are, where none is in memory
abbrev pub placed : Place → Option Text
placed place.Memory = None
placed (place.File file) = Some file.now

-- where the tables of a job are: in memory for `apply :memory:` alone
abbrev pub place_of : Spelled → Option Text
place_of (to_init file) = Some file
place_of (to_migrate file) = Some file
place_of (to_apply file) = if bytes_eq file (codes ":memory:") then None else Some file
place_of (to_serve file port count) = Some file
place_of (to_show file change) = Some file
place_of (to_join file project branch) = Some file

-- the change of a number
abbrev pub change_numbered : ℕ → Option ℕ
change_numbered n = if is_within most_changes n then Some n else None

-- the change whose number a text is, in decimal without leading zeros
unfoldable pub change_of : Text → Option ℕ
change_of text = option_and_then change_numbered (number_of text)

-- the port of a number, 1 to 65,535
abbrev pub port_numbered : ℕ → Option ℕ
port_numbered n = if nat_le 1 n && nat_le n 65535 then Some n else None

-- the port whose number a text is, in decimal without leading zeros
unfoldable pub port_of : Text → Option ℕ
port_of text = option_and_then port_numbered (number_of text)

-- the count of a number, 0 to 4,294,967,295
abbrev pub count_numbered : ℕ → Option ℕ
count_numbered n = if nat_le n 4294967295 then Some n else None

-- the count whose number a text is, in decimal without leading zeros
unfoldable pub count_of : Text → Option ℕ
count_of text = option_and_then count_numbered (number_of text)

-- the name of a project or a branch that a text is
abbrev pub name_of : Text → Option Text
name_of text = if is_slashed_name text then Some text else None

-- the next step with what was read, or the fault of reading it
abbrev pub and_then : {X Y : Type 0} → (X → Result Y WordsFault) → Result X WordsFault → Result Y WordsFault
and_then next (Ok x) = next x
and_then next (Err fault) = Err fault

-- the file that the words name
abbrev pub file_in : List Row → Result Text WordsFault
file_in rows = ok_or (first_of (codes "file") rows) fault.File

-- the port that the words give
abbrev pub port_in : List Row → Result ℕ WordsFault
port_in rows = ok_or (option_and_then port_of (first_of (codes "port") rows)) fault.Port

-- the count that the words give
abbrev pub count_in : List Row → Result ℕ WordsFault
count_in rows = ok_or (option_and_then count_of (first_of (codes "count") rows)) fault.Count

-- the change that the words give
abbrev pub change_in : List Row → Result ℕ WordsFault
change_in rows = ok_or (option_and_then change_of (first_of (codes "change") rows)) fault.Change

-- the project that the words name
abbrev pub project_in : List Row → Result Text WordsFault
project_in rows = ok_or (option_and_then name_of (first_of (codes "project") rows)) fault.Project

-- the branch that the words name
abbrev pub branch_in : List Row → Result Text WordsFault
branch_in rows = ok_or (option_and_then name_of (first_of (codes "branch") rows)) fault.Branch

-- the job of `serve` on a file: a fault of the port comes before one of the count
abbrev pub serve_in : Text → List Row → Result Spelled WordsFault
serve_in file rows = and_then (λ port. and_then (λ count. Ok (to_serve file port count)) (count_in rows)) (port_in rows)

-- the job of `show` on a file
abbrev pub show_in : Text → List Row → Result Spelled WordsFault
show_in file rows = and_then (λ change. Ok (to_show file change)) (change_in rows)

-- the job of `joined` on a file: a fault of the project comes before one of the branch
abbrev pub joined_in : Text → List Row → Result Spelled WordsFault
joined_in file rows = and_then (λ project. and_then (λ branch. Ok (to_join file project branch)) (branch_in rows)) (project_in rows)

-- the job of a command on a file, from the values of its words
abbrev pub job_on : Text → List Row → Text → Result Spelled WordsFault
job_on name rows file =
    if bytes_eq name (codes "init") then Ok (to_init file)
    else if bytes_eq name (codes "migrate") then Ok (to_migrate file)
    else if bytes_eq name (codes "apply") then Ok (to_apply file)
    else if bytes_eq name (codes "serve") then serve_in file rows
    else if bytes_eq name (codes "show") then show_in file rows
    else if bytes_eq name (codes "joined") then joined_in file rows
    else Err fault.UnknownCommand

-- the job of a command with the values of its words
abbrev pub job_from : Text × List Row → Result Spelled WordsFault
job_from p = and_then (job_on p.0 p.1) (file_in p.1)

-- the job of the command that was found, if one was
abbrev pub job_found : Option (Text × List Row) → Result Spelled WordsFault
job_found found = and_then job_from (ok_or found fault.NoCommand)

-- the job of words whose first is a command, where the command line takes them
unfoldable pub job_taken : List Text → Result Spelled WordsFault
job_taken words = unless (refusal (fault_of desk words)) (job_found (subcommand_of desk words))

-- the job that words spell by the command line, or their first fault: of the first word, of what the command line refuses, of the file, of a value
abbrev pub job_spelled : List Text → Result Spelled WordsFault
job_spelled words = unless (command_fault words) (job_taken words)

-- what was read of words is what they spell; memory may lack for it
abbrev pub Gives : {X Y : Type 0} → (X → Y) → Result X WordsFault → Result Y WordsFault → Type 0
Gives view (Ok x) spells = spells ≡ Ok (view x)
Gives view (Err f) spells = (f ≡ fault.Memory) ⊎ (spells ≡ Err f)
