-- A test of some component of a text.
use Rattle.std.proofs.Common.{◌≡◌, ℕ, Bool, true, false, ◌||◌, List, length, sym, ap, ap₂, ◌∙◌}
use Rattle.std.{proofs.Math.Bool.or-false, specs.List.list_any, specs.List.position_or_len}
use Rattle.review_names.proofs.Components.{Splits, components_split, components_whole, is_slash}
use Rattle.review_names.specs.Forms.{components}

split_any : (f : List ℕ → Bool) (s first rest : List ℕ) (b : Bool) → Splits s first rest → f first ≡ b → list_any f (components s) ≡ b || list_any f (components rest)
split_any f s first rest b h e =
    ap (list_any f) (components_split s h.2) ∙ ap₂ (λ xs ys. f xs || list_any f (components ys)) (sym h.0) (sym h.1) ∙ ap (λ t. t || list_any f (components rest)) e

pub component_found : (f : List ℕ → Bool) (s first rest : List ℕ) (all : Bool) → list_any f (components s) ≡ all → Splits s first rest → f first ≡ true → true ≡ all
component_found f s first rest all e h same = sym (split_any f s first rest true h same) ∙ e

pub component_left : (f : List ℕ → Bool) (s first rest : List ℕ) (all : Bool) → list_any f (components s) ≡ all → Splits s first rest → f first ≡ false → list_any f (components rest) ≡ all
component_left f s first rest all e h differs = sym (split_any f s first rest false h differs) ∙ e

pub component_last : (f : List ℕ → Bool) (s : List ℕ) (all : Bool) → list_any f (components s) ≡ all → position_or_len is_slash s ≡ length s → f s ≡ all
component_last f s all e h = sym (ap (list_any f) (components_whole s h) ∙ or-false (f s)) ∙ e
