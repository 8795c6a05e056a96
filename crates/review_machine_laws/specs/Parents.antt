-- What changes stand on.
use Rattle.std.specs.List.{Contains}
use Rattle.std.specs.Prelude.{◌≡◌, ◌⊎◌, ℕ, List, Some, true, option_map}
use Rattle.review_words.specs.History.{Entry, is_base}
use Rattle.review_core_rules.specs.Change.{Change, commit, parent}
use Rattle.review_machine_rows.specs.Changes.{Reading, change}

-- A change stands on a branch, or on one of some changes: its current parent is a base of the branch, or the current commit of such a change.
pub record StandsOn (reading : Reading) (h : List Entry) (project branch : List ℕ) (changes : List ℕ) (n : ℕ) : Type 0 where
  pub of : Change
  pub there : change reading h n ≡ Some of
  pub parent_is : (is_base h project branch (parent of) ≡ true) ⊎ ((d : ℕ) × Contains changes d × (option_map commit (change reading h d) ≡ Some (parent of)))
