-- Fronts taken off, and texts cut at a byte.
use Rattle.std.proofs.Common.{◌≡◌, ◌≢◌, ℕ, suc, ◌<◌, ◌==◌, List, [], ◌∷◌, ◌++◌, length, drop, get_or, Bool, true, false, cond, Option, None, Some, option_map, MatchOption, Bor, refl, sym, ap, ◌∙◌, arith}
use Rattle.std.proofs.lemmas.{Bool.Decides.nat_tests, Str.Pattern.IsSplitOnceResult, Str.Pattern.split_parts}
use Rattle.std.specs.Str.Pattern.{FindsTextPrefix, StripsPrefix}
use Rattle.review_expr_spelling.specs.Values.{behind, cut_at, with_first}

pub same : (c : ℕ) → (c == c) ≡ true
same c = grind (arith, nat_tests)

pub other : (c d : ℕ) → c ≢ d → (c == d) ≡ false
other c d h = grind (arith, nat_tests, h)

pub behind_back : (f r : List ℕ) → behind f (f ++ r) ≡ Some r
unfolding behind
behind_back [] r = refl
behind_back (c ∷ f) r = rw (same c) (behind_back f r)

none_by : (b : Bool) (c d : ℕ) (f s : List ℕ) → (c == d) ≡ b → ((r : List ℕ) → d ∷ s ≡ (c ∷ f) ++ r → ⊥) → (((r : List ℕ) → s ≡ f ++ r → ⊥) → behind f s ≡ None) → cond b (behind f s) None ≡ None
none_by false c d f s e h below = refl
none_by true c d f s e h below = let equal : d ≡ c = grind (arith, nat_tests, e) in below (λ r is. h r (λ i. equal i ∷ is i))

pub behind_none : (f s : List ℕ) → ((r : List ℕ) → s ≡ f ++ r → ⊥) → behind f s ≡ None
unfolding behind
behind_none [] s h = absurd (h s refl)
behind_none (c ∷ f) [] h = refl
behind_none (c ∷ f) (d ∷ s) h = none_by (c == d) c d f s refl h (behind_none f s)

pub stripped : (f s : List ℕ) (r : Option (Bor (List ℕ))) → MatchOption r (FindsTextPrefix f s None) (λ x. StripsPrefix (FindsTextPrefix f) s x.now) → option_map (λ x. x.now) r ≡ behind f s
stripped f s None h = sym (behind_none f s h)
stripped f s (Some x) h =
    let n = h.0 in
    ap Some h.2 ∙ sym (ap (behind f) h.1.1 ∙ behind_back f (drop n s))

-- no such byte stands in the text
abbrev pub Lacks : ℕ → List ℕ → Type 0
Lacks b s = (i : ℕ) → i < length s → get_or s i 0 ≢ b

pub cut_back : (b : ℕ) (xs ys : List ℕ) → Lacks b xs → cut_at b (xs ++ b ∷ ys) ≡ Some (xs, ys)
unfolding cut_at
cut_back b [] ys h = rw (same b) refl
cut_back b (c ∷ xs) ys h =
    rw (other c b (h 0 (omega arith))) (ap (option_map (with_first c)) (cut_back b xs ys (λ i lt. h (suc i) (omega arith))))

pub uncut : (b : ℕ) (s : List ℕ) → Lacks b s → cut_at b s ≡ None
unfolding cut_at
uncut b [] h = refl
uncut b (c ∷ s) h =
    rw (other c b (h 0 (omega arith))) (ap (option_map (with_first c)) (uncut b s (λ i lt. h (suc i) (omega arith))))

pub cut_of : (b : ℕ) (s : List ℕ) (r : Option (Bor (List ℕ) × Bor (List ℕ))) → IsSplitOnceResult b s r → b < 128 → option_map (λ x. (x.0.now, x.1.now)) r ≡ cut_at b s
cut_of b s None h ascii = sym (uncut b s (split_parts b s None h ascii))
cut_of b s (Some x) h ascii = let p = split_parts b s (Some x) h ascii in sym (ap (cut_at b) p.0 ∙ cut_back b x.0.now x.1.now p.1)

front_by : (b : Bool) (c d : ℕ) (f s r : List ℕ) → (c == d) ≡ b → (behind f s ≡ Some r → s ≡ f ++ r) → cond b (behind f s) None ≡ Some r → d ∷ s ≡ (c ∷ f) ++ r
front_by true c d f s r e below h = let equal : d ≡ c = grind (arith, nat_tests, e) in let rest = below h in (λ i. equal i ∷ rest i)
front_by false c d f s r e below h = absurd (cc)

-- what a text is of which a front was taken off
pub behind_front : (f s r : List ℕ) → behind f s ≡ Some r → s ≡ f ++ r
unfolding behind
behind_front [] s r h = let same : s ≡ r = cc in same
behind_front (c ∷ f) [] r h = absurd (cc)
behind_front (c ∷ f) (d ∷ s) r h = front_by (c == d) c d f s r refl (behind_front f s r) h
