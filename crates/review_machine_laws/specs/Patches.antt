-- The patch sets of the changes for a branch.
use Rattle.std.specs.Prelude.{ℕ, ◌≡◌, List, Option, Some, true}
use Rattle.review_core_rules.specs.{Change.Change, Change.of_number, declared.rows.PatchRow.PatchRow}
use Rattle.review_machine_rows.specs.Links.{is_for}

-- There is a change, it is for the branch, and this is its patch set of the number.
pub record HasPatch (project branch : List ℕ) (number : ℕ) (patch : PatchRow) (there : Option Change) : Type 0 where
  pub of : Change
  pub is : there ≡ Some of
  pub is_for_it : is_for project branch of ≡ true
  pub sent : of_number of.patches number ≡ Some patch
