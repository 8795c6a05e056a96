-- A test of some element, from one place on.
use Rattle.std.proofs.Common.{◌≡◌, ℕ, ◌+◌, ◌<◌, Bool, true, false, ◌||◌, List, ◌∷◌, length, get_or, drop, sym, ap, ap₂, ◌∙◌, add-one}
use Rattle.std.{proofs.Math.Seq.drop-cons, specs.List.list_any}

front : {X : Type 0} → (xs : List X) (i : ℕ) (d x : X) → i < length xs → get_or xs i d ≡ x → drop i xs ≡ x ∷ drop (i + 1) xs
front xs i d x lt is = drop-cons xs i d lt ∙ ap₂ (λ y n. y ∷ drop n xs) is (sym (add-one i))

step_any : {X : Type 0} → (f : X → Bool) (xs : List X) (i : ℕ) (d x : X) (b : Bool) → i < length xs → get_or xs i d ≡ x → f x ≡ b →
    list_any f (drop i xs) ≡ b || list_any f (drop (i + 1) xs)
step_any f xs i d x b lt is e = ap (list_any f) (front xs i d x lt is) ∙ ap (λ c. c || list_any f (drop (i + 1) xs)) e

-- the element at a place passes, or it doesn't, or there is none
pub found_at : {X : Type 0} → (f : X → Bool) (xs : List X) (i : ℕ) (d x : X) (all : Bool) → i < length xs → get_or xs i d ≡ x → f x ≡ true →
    list_any f (drop i xs) ≡ all → true ≡ all
found_at f xs i d x all lt is e h = sym (step_any f xs i d x true lt is e) ∙ h

pub not_at : {X : Type 0} → (f : X → Bool) (xs : List X) (i : ℕ) (d x : X) (all : Bool) → i < length xs → get_or xs i d ≡ x → f x ≡ false →
    list_any f (drop i xs) ≡ all → list_any f (drop (i + 1) xs) ≡ all
not_at f xs i d x all lt is e h = sym (step_any f xs i d x false lt is e) ∙ h
