-- The places of changes in a branch.
use Rattle.std.specs.Prelude.{ℕ, ◌+◌, List, [], ◌∷◌}

-- Changes in their order, each with its place: these count from one on.
abbrev pub places_from : ℕ → List ℕ → List (ℕ × ℕ)
places_from place [] = []
places_from place (c ∷ cs) = (c, place) ∷ places_from (place + 1) cs

-- The places of the changes that joined a branch, which count from 1.
abbrev pub places : List ℕ → List (ℕ × ℕ)
places changes = places_from 1 changes
