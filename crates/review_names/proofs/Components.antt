-- The components of a text, the first one taken off.
use Rattle.std.proofs.Common.{◌≡◌, ℕ, suc, ◌+◌, ◌<◌, ◌==◌, ◌&&◌, Bool, true, false, not, List, [], ◌∷◌, length, take, drop, refl, sym, ap, ap₂, ◌∙◌, arith, cond}
use Rattle.std.proofs.Math.Bool.{and-true}
use Rattle.std.specs.List.{list_all, position_or_len, before_first, after_first}
use Rattle.review_names.specs.Forms.{components, with_front}

abbrev pub is_slash : ℕ → Bool
is_slash b = b == 47

abbrev first : List ℕ → ℕ
first s = position_or_len is_slash s

split_by : (b : Bool) (c : ℕ) (cs : List ℕ) → is_slash c ≡ b → (first cs < length cs → components cs ≡ before_first is_slash cs ∷ components (after_first is_slash cs))
    → first (c ∷ cs) < length (c ∷ cs) → components (c ∷ cs) ≡ before_first is_slash (c ∷ cs) ∷ components (after_first is_slash (c ∷ cs))
split_by true c cs e below h = rw e refl
split_by false c cs e below h =
    let within : cond (not (is_slash c)) (1 + first cs) 0 < suc (length cs) = h in
    let inside : 1 + first cs < suc (length cs) = rw e at within in
    let one : 1 + first cs ≡ suc (first cs) = omega arith in
    let two : 1 + first cs + 1 ≡ suc (first cs + 1) = omega arith in
    let left : cond (is_slash c) ([] ∷ components cs) (with_front c (components cs)) ≡ with_front c (components cs) = rw e refl in
    let before : before_first is_slash (c ∷ cs) ≡ c ∷ before_first is_slash cs = rw e (ap (λ n. take n (c ∷ cs)) one) in
    let after : after_first is_slash (c ∷ cs) ≡ after_first is_slash cs = rw e (ap (λ n. drop n (c ∷ cs)) two) in
    left ∙ ap (with_front c) (below (omega arith)) ∙ ap₂ (λ xs ys. xs ∷ components ys) (sym before) (sym after)

pub components_split : (s : List ℕ) → first s < length s → components s ≡ before_first is_slash s ∷ components (after_first is_slash s)
components_split [] h = absurd (omega arith)
components_split (c ∷ cs) h = split_by (is_slash c) c cs refl (components_split cs) h

whole_by : (b : Bool) (c : ℕ) (cs : List ℕ) → is_slash c ≡ b → (first cs ≡ length cs → components cs ≡ cs ∷ [])
    → first (c ∷ cs) ≡ length (c ∷ cs) → components (c ∷ cs) ≡ (c ∷ cs) ∷ []
whole_by true c cs e below h =
    let none : 0 ≡ suc (length cs) = rw e at h in absurd (omega arith)
whole_by false c cs e below h =
    let same : 1 + first cs ≡ suc (length cs) = rw e at h in
    rw e (ap (with_front c) (below (omega arith)))

pub components_whole : (s : List ℕ) → first s ≡ length s → components s ≡ s ∷ []
components_whole [] h = refl
components_whole (c ∷ cs) h = whole_by (is_slash c) c cs refl (components_whole cs) h

-- a text before and after its first slash
abbrev pub Splits : List ℕ → List ℕ → List ℕ → Type 0
Splits s front rest = (front ≡ before_first is_slash s) × (rest ≡ after_first is_slash s) × (first s < length s)

all_split : (f : List ℕ → Bool) (s front rest : List ℕ) (b : Bool) → Splits s front rest → f front ≡ b → list_all f (components s) ≡ b && list_all f (components rest)
all_split f s front rest b h e =
    ap (list_all f) (components_split s h.2) ∙ ap₂ (λ xs ys. f xs && list_all f (components ys)) (sym h.0) (sym h.1) ∙ ap (λ t. t && list_all f (components rest)) e

pub refused : (f : List ℕ → Bool) (s front rest : List ℕ) (all : Bool) → list_all f (components s) ≡ all → Splits s front rest → f front ≡ false → false ≡ all
refused f s front rest all e h differs = sym (all_split f s front rest false h differs) ∙ e

pub left : (f : List ℕ → Bool) (s front rest : List ℕ) (all : Bool) → list_all f (components s) ≡ all → Splits s front rest → f front ≡ true → list_all f (components rest) ≡ all
left f s front rest all e h same = sym (all_split f s front rest true h same) ∙ e

pub last : (f : List ℕ → Bool) (s : List ℕ) (all : Bool) → list_all f (components s) ≡ all → first s ≡ length s → f s ≡ all
last f s all e h = sym (ap (list_all f) (components_whole s h) ∙ and-true (f s)) ∙ e
