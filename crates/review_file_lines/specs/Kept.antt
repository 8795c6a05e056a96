-- What is remembered of the lines of projects.
use Rattle.std.specs.{BTreeMap.is_at, Cmp.Lexicographic.slice_cmp, Ordering.nat_cmp}
use Rattle.std.specs.Prelude.{◌≡◌, ◌⊎◌, ℕ, true, List, [], ◌∷◌, Option, Some, map}
use Rattle.review_file_lines.specs.declared.lines.{LinePart.LinePart, ReadLine.ReadLine}

-- what is remembered under a name is the line of a project of that name among these, each with its ancestors behind it
abbrev pub IsLineOf : List LinePart → List ℕ → Option ReadLine → Type 0
IsLineOf [] name kept = ⊥
IsLineOf (own ∷ above) name kept =
    ((is_at (slice_cmp nat_cmp own.project.now) name ≡ true) × (line : ReadLine) × (kept ≡ Some line) × (line.texts ≡ own.text.now ∷ map (λ p. p.text.now) above)) ⊎ IsLineOf above name kept

-- what was remembered under a name before still is, or it is the line of a project of that name among these
abbrev pub IsKept : List LinePart → List ℕ → Option ReadLine → Option ReadLine → Type 0
IsKept parts name before after = (after ≡ before) ⊎ IsLineOf parts name after
