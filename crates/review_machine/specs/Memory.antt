-- What the lines of an input do to an empty desk in memory.
use Rattle.std.specs.Io.KnownBytes.{Appends}
use Rattle.std.specs.Prelude.{◌≡◌, ◌⊎◌, ℕ, List, [], Option, Result, Err}
use Rattle.review_words.specs.declared.{command.Delivery.Delivery, reply.Reply.Reply}
use Rattle.review_machine_rows.specs.{Rows.Tables, Shelf.in_memory, View.IsView}
use Rattle.review_machine_laws.specs.{SoundBranches.AreSoundBranches, SoundProjects.AreSoundProjects}
use Rattle.review_machine_deliveries.specs.{Delivered.CountsVotesOnce, Replies.IsRun, Replies.history_after}
use Rattle.review_json_lines.specs.{Answers.WereAnswered, declared.fault.Fault.Fault, declared.fault.Outcome.Outcome}
use Rattle.review_json_lines.specs.declared.fault.Fault.TheVariants as fault

-- there was no memory for a desk, and nothing was written
abbrev pub HadNoMemory : Option (List ℕ) → Option (List ℕ) → Result Outcome Fault → Type 0
HadNoMemory before after told = (told ≡ Err fault.Memory) × Appends before after []

-- Deliveries were a run from the history of no request, with no premise on a store, the branches and the projects that it left are sound, and each account's vote counts at most once.
abbrev pub RunsFromNothing : Tables → Tables → List Delivery → List Reply → Type 0
RunsFromNothing first last ds replies =
    IsRun [] ds replies (in_memory first) (in_memory last) × AreSoundBranches (history_after [] ds replies) × AreSoundProjects (history_after [] ds replies)
    × CountsVotesOnce (history_after [] ds replies)

-- The first lines of an input, all where no fault came, were such a run, and were answered.
abbrev pub RanFromNothing : Option (List ℕ) → Option (List ℕ) → Option (List ℕ) → Result Outcome Fault → Type 0
RanFromNothing input before after told =
    (first last : Tables) × IsView [] first × WereAnswered (RunsFromNothing first last) input before after told

-- what `apply :memory:` did
pub record RanInMemory (input before after : Option (List ℕ)) (told : Result Outcome Fault) : Type 0 where
  pub how : HadNoMemory before after told ⊎ RanFromNothing input before after told
