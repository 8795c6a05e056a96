-- A stack of truth values on which the entries of a flat list are taken one after the other. Its top is at the end.
use Rattle.std.specs.List.{list_all, list_any}
use Rattle.std.specs.Prelude.{[], ◌≡◌, Bool, not, List, ◌∷◌, ◌++◌, length}
use Rattle.review_expr_judging.specs.Postfix.{Entry, TermEntry, NotEntry, AndEntry, OrEntry}

-- From a stack, these entries lead to one truth value. A term puts its own on top; NOT takes the one on top, and AND and OR as many as they have members, and each puts one in their place.
abbrev pub LeadsTo : {A : Type 0} → (A → Bool) → List Bool → List (Entry A) → Bool → Type 0
LeadsTo is_held stack [] b = stack ≡ b ∷ []
LeadsTo is_held stack (TermEntry a ∷ es) b = LeadsTo is_held (stack ++ is_held a ∷ []) es b
LeadsTo is_held stack (NotEntry ∷ es) b = (under : List Bool) × (top : Bool) × (stack ≡ under ++ top ∷ []) × LeadsTo is_held (under ++ not top ∷ []) es b
LeadsTo is_held stack (AndEntry n ∷ es) b = (under top : List Bool) × (stack ≡ under ++ top) × (length top ≡ n) × LeadsTo is_held (under ++ list_all (λ x. x) top ∷ []) es b
LeadsTo is_held stack (OrEntry n ∷ es) b = (under top : List Bool) × (stack ≡ under ++ top) × (length top ≡ n) × LeadsTo is_held (under ++ list_any (λ x. x) top ∷ []) es b
