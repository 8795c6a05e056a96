-- Words that only proofs and private clauses use.
use Rattle.std.specs.Ordering.{nat_cmp}
use Rattle.std.specs.Prelude.{[], ℕ, ◌+◌, List, ◌∷◌, ◌≡◌, ◌++◌, ◌≤◌, length}
use Rattle.{review_table.specs.Rows.row_in, review_core_rules.specs.Change.of_number}
use Rattle.review_machine_change_rows.specs.declared.loading.ChangeFault.{ChangeFault}
use Rattle.review_machine_change_rows.specs.declared.loading.ChangeFault.TheVariants.{Memory, Gap}

-- the rows are these, each under its number
abbrev pub AreInOrder : {X : Type 0} → List (ℕ × X) → List X → Type 0
AreInOrder rows xs = (n : ℕ) → row_in nat_cmp rows n ≡ of_number xs n

-- why numbered rows make no list: where they have a gap, none has them under its numbers
abbrev pub IsGap : {X : Type 0} → List (ℕ × X) → ChangeFault → Type 0
IsGap rows Memory = Unit {0}
IsGap {X} rows Gap = (xs : List X) → AreInOrder rows xs → ⊥

-- a row is added under the next number
abbrev pub AddsNext : {X : Type 0} → List X → ℕ → X → List X → Type 0
AddsNext old n x new = (n ≡ length old + 1) × (new ≡ old ++ x ∷ [])

-- why a row isn't added: its number isn't the next
abbrev pub IsNotNext : {X : Type 0} → List X → ℕ → ChangeFault → Type 0
IsNotNext old n Memory = Unit {0}
IsNotNext old n Gap = (1 ≤ n) × (n ≡ length old + 1 → ⊥)

-- rows under the numbers after one
abbrev pub numbered : {X : Type 0} → ℕ → List X → List (ℕ × X)
numbered n [] = []
numbered n (x ∷ xs) = (n + 1, x) ∷ numbered (n + 1) xs
