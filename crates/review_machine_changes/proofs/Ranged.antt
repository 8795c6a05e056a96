-- A value is in the range of what is granted just where it is 0 or a grant reaches to it.
use Rattle.std.proofs.Common.{◌≡◌, ◌∙◌, ℤ, pos, negsuc, zero, suc, Bool, true, false, cond, List, [], ◌∷◌, map, filter, fold, refl, sym, ap, ap₂, ◌&&◌, ◌||◌, int_le, int_lt, int_eq, arith}
use Rattle.std.proofs.{Math.Bool.and-true, Math.Bool.or-false, lemmas.Int.ints, lemmas.Int.clamps}
use Rattle.std.specs.{Int.int_min, Int.int_max, List.list_any}
use Rattle.review_file_rules.specs.{Rights.greatest_of, Rights.least_of, declared.parts.Grant.Grant}
use Rattle.review_machine_changes.specs.inner.Done.{reaches}

one_more : (a x r : Bool) → ((a || x) || r) ≡ (a || ((x && true) || r))
one_more true x r = refl
one_more false true r = refl
one_more false false r = refl

passed_over : (a x r : Bool) → (a || r) ≡ (a || ((x && false) || r))
passed_over a true r = refl
passed_over a false r = refl

-- a test of the end of some numbers, which holds of the end of two just where it holds of one of them
module _ (end : ℤ → ℤ → ℤ) (test : ℤ → Bool) (either : (a b : ℤ) → test (end a b) ≡ (test a || test b)) (number : Grant → ℤ) (is_in : Grant → Bool) where
  folded_by : (i : Bool) (g : Grant) (gs : List Grant) (a : ℤ) (r : Bool) → ((b : ℤ) → test (fold end b (map number gs)) ≡ (test b || r)) → test (fold end a (map number (cond i (g ∷ gs) gs))) ≡ (test a || ((test (number g) && i) || r))
  folded_by true g gs a r h = h (end a (number g)) ∙ (ap (λ b. b || r) (either a (number g)) ∙ one_more (test a) (test (number g)) r)
  folded_by false g gs a r h = h a ∙ passed_over (test a) (test (number g)) r

  folded : (a : ℤ) (gs : List Grant) → test (fold end a (map number (filter is_in gs))) ≡ (test a || list_any (λ g. test (number g) && is_in g) gs)
  folded a [] = sym (or-false (test a))
  folded a (g ∷ gs) = folded_by (is_in g) g (filter is_in gs) a (list_any (λ g. test (number g) && is_in g) gs) (λ b. folded b gs)

module _ (is_in : Grant → Bool) where
  ends : (v : ℤ) (gs : List Grant) → (int_le (least_of (filter is_in gs)) v && int_le v (greatest_of (filter is_in gs)))
      ≡ ((int_le (pos 0) v || list_any (λ g. int_le g.least v && is_in g) gs) && (int_le v (pos 0) || list_any (λ g. int_le v g.greatest && is_in g) gs))
  ends v gs = ap₂ (λ a b. a && b) (folded int_min (λ x. int_le x v) (λ a b. grind (arith, ints, clamps)) (λ g. g.least) is_in (pos 0) gs)
      (folded int_max (λ x. int_le v x) (λ a b. grind (arith, ints, clamps)) (λ g. g.greatest) is_in (pos 0) gs)

  pub within : (v : ℤ) (gs : List Grant) → (int_le (least_of (filter is_in gs)) v && int_le v (greatest_of (filter is_in gs)))
      ≡ (int_eq v (pos 0) || list_any (λ g. reaches v g && is_in g) gs)
  within (pos zero) gs = ends (pos zero) gs
  within (pos (suc n)) gs =
      let not_below : int_le (pos 0) (pos (suc n)) ≡ true = grind (arith, ints) in
      let above : int_le (pos (suc n)) (pos 0) ≡ false = grind (arith, ints) in
      let not_zero : int_eq (pos (suc n)) (pos 0) ≡ false = grind (arith, ints) in
      let not_less : int_lt (pos (suc n)) (pos 0) ≡ false = grind (arith, ints) in
      ends (pos (suc n)) gs ∙ rw (not_below, above, not_zero, not_less) refl
  within (negsuc n) gs = ends (negsuc n) gs ∙ and-true _
