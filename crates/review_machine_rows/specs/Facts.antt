-- What the checks of commands ask of a desk.
use Rattle.std.specs.Prelude.{ℕ, Bool, List, Option}
use Rattle.{review_core_rules.specs.Change.Change, review_machine_rows.specs.Files.File}

-- What the checks of commands ask of a desk: whether a number is that of an account, whether an account runs the desk, or is in a group, whether a name is taken, and how many accounts there are; whether
-- there is a project, its file, whether it has a branch, and room for one more base below the most that there may be, and whether a commit is known in a branch of it; the change of a number, and how many there are; the least open epoch.
pub record DeskFacts : Type 0 where
  pub is_account : ℕ → Bool
  pub is_admin : ℕ → Bool
  pub is_in : ℕ → List ℕ → Bool
  pub is_taken : List ℕ → Bool
  pub accounts : ℕ
  pub is_project : List ℕ → Bool
  pub file : List ℕ → File
  pub is_branch : List ℕ → List ℕ → Bool
  pub has_room : List ℕ → Bool
  pub is_known : List ℕ → List ℕ → List ℕ → Bool
  pub change : ℕ → Option Change
  pub changes : ℕ
  pub least_open : ℕ
