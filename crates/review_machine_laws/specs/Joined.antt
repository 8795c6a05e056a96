-- What it is to have joined a branch.
use Rattle.std.specs.Prelude.{◌≡◌, ℕ, List, Some}
use Rattle.review_words.specs.{History.Entry, declared.shown.State.TheVariants.Merged}
use Rattle.review_core_rules.specs.Change.{Change}
use Rattle.review_machine_rows.specs.Changes.{Reading, change}

-- A change has joined a branch: it is for the branch, and merged.
pub record HasJoined (reading : Reading) (h : List Entry) (project branch : List ℕ) (n : ℕ) : Type 0 where
  pub of : Change
  pub there : change reading h n ≡ Some of
  pub for_project : of.project ≡ project
  pub for_branch : of.branch ≡ branch
  pub merged : of.state ≡ Merged
