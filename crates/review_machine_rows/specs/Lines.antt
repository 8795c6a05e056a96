-- The line of a project: it, its parent, and so on.
use Rattle.std.specs.Option.{option_map_or}
use Rattle.std.specs.Prelude.{ℕ, zero, suc, List, [], ◌∷◌, Option, Some, None}
use Rattle.review_machine_rows.specs.declared.rows.StoredFile.{StoredFile}

-- the greatest depth of a project
abbrev pub most_depth : ℕ
most_depth = 8

-- a text with those above it, where it is there
abbrev pub with_above : Option StoredFile → (List ℕ → List (List ℕ)) → List (List ℕ)
with_above None above = []
with_above (Some f) above = f.text ∷ option_map_or above f.parent []

-- The texts of the line of a project, as far as so many steps lead and as each project has a text: its own first, then that of its parent, and so on.
abbrev pub line_of : (List ℕ → Option StoredFile) → ℕ → List ℕ → List (List ℕ)
line_of own zero project = []
line_of own (suc n) project = with_above (own project) (line_of own n)
