-- What may be relied on of projects and of votes.
use Rattle.std.specs.Prelude.{◌≡◌, ◌++◌, ℕ, List, Some, true, false}
use Rattle.review_words.specs.History.{Entry, is_project}
use Rattle.review_file_rules.specs.{Expressions.names_unknown_label, Rights.covers}
use Rattle.review_core_rules.specs.{Change.Change, Votes.voted}
use Rattle.review_machine_rows.specs.Answer.{is_value_of}
use Rattle.review_machine_rows.specs.Changes.{Reading, Reads, change, file_of, own_of}
use Rattle.review_machine_rows.specs.{Files.File, Lines.most_depth}
use Rattle.review_machine_laws.specs.Ends.{ends}

-- Each vote that stands on a change is on a label of the file, with a value of it.
abbrev pub AreOfLabels : File → Change → Type 0
AreOfLabels file c = (n : ℕ) (l : List ℕ) (a : ℕ) → voted (c.vote n l a) ≡ true → is_value_of file (record { label = l; value = c.vote n l a }) ≡ true

-- Every project of the history is sound, and so are the votes by its file.
pub record AreSoundProjects (h : List Entry) : Type 0 where
  -- one parent after the other is a project, within the greatest depth, and the last has none
  pub lines : (project : List ℕ) → is_project h project ≡ true → ends (own_of h) most_depth project ≡ true
  -- no effective file has lost a label or a value that it had after some first requests
  pub labels : (reading : Reading) → Reads reading h → (later before : List Entry) → h ≡ later ++ before → (project : List ℕ) → is_project before project ≡ true →
      covers (file_of reading before project) (file_of reading h project) ≡ true
  -- the requirements of each effective file name its labels alone
  pub known : (reading : Reading) → Reads reading h → (project : List ℕ) → is_project h project ≡ true → names_unknown_label (file_of reading h project) ≡ false
  -- each vote on a change is on a label of its project's effective file, with a value of it
  pub votes : (reading : Reading) → Reads reading h → (n : ℕ) (c : Change) → change reading h n ≡ Some c → AreOfLabels (file_of reading h c.project) c
