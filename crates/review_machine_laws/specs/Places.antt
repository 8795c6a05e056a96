-- The place of a change in its branch.
use Rattle.std.specs.Prelude.{ℕ, List, Option, Some, None, ◌&&◌, if◌then◌else◌}
use Rattle.review_core_rules.specs.Change.{Change}
use Rattle.review_machine_rows.specs.{Links.is_for, Submits.is_merged}

-- the place that a change has in a branch, where it joined it
abbrev pub place_of : List ℕ → List ℕ → Option Change → Option ℕ
place_of project branch None = None
place_of project branch (Some c) = if is_for project branch c && is_merged c.state then Some c.place else None
