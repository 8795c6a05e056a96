-- How many things stand before a name.
use Rattle.std.specs.{Cmp.Lexicographic.slice_cmp, Ordering.is_lt, Ordering.nat_cmp}
use Rattle.std.specs.Prelude.{[], ℕ, suc, List, ◌∷◌, if◌then◌else◌}

-- how many of some things, one after the other from the first, have names below this one
abbrev pub count_before : {X : Type 0} → (X → List ℕ) → List ℕ → List X → ℕ
count_before name q [] = 0
count_before name q (x ∷ xs) = if is_lt (slice_cmp nat_cmp (name x) q) then suc (count_before name q xs) else 0
