-- Whether the line of a project ends.
use Rattle.std.specs.Prelude.{ℕ, zero, suc, List, Option, Some, None, Bool, true, false}
use Rattle.review_machine_rows.specs.declared.rows.StoredFile.{StoredFile}

-- the line ends with a project that has no parent
abbrev pub ends_above : Option (List ℕ) → (List ℕ → Bool) → Bool
ends_above None above = true
ends_above (Some parent) above = above parent

-- whether a line ends here, or is to go on above
abbrev pub ends_by : Option StoredFile → (List ℕ → Bool) → Bool
ends_by None above = false
ends_by (Some f) above = ends_above f.parent above

-- The line of a project ends within so many steps: one parent after the other is a project, and the last of them has none.
abbrev pub ends : (List ℕ → Option StoredFile) → ℕ → List ℕ → Bool
ends own zero project = false
ends own (suc n) project = ends_by (own project) (ends own n)
