-- Numbers from 1 to a greatest one below 2^32, by any test of them, and the texts that show them.
use Rattle.std.proofs.Common.{◌≡◌, ℕ, ◌<◌, ◌≤◌, List, Result, Some, None, Bool, true, false, IfOk, IfErr, IsTrue, refl, sym, ap, subst, ◌∙◌, arith, cond}
use Rattle.std.proofs.lemmas.Bool.Decides.{nat_tests}
use Rattle.std.specs.Prelude.{ok_or, nat_le, nat_lt, ◌&&◌}
use Rattle.review_names.proofs.Numerals.{number_back, number_shown}
use Rattle.review_names.specs.{Forms.is_within, Numerals.number_of, Numerals.numeral}
use Rattle.review_names.specs.declared.names.Bad.{Bad, TheVariants.Form}

pub most_fits : (most : ℕ) → IsTrue (nat_le 1 most && nat_lt most 4294967296) → (1 ≤ most) × (most < 4294967296)
most_fits most h = (grind (arith, nat_tests, h), grind (arith, nat_tests, h))

module _ (most : ℕ) (test : ℕ → Bool) (spans : (n : ℕ) → test n ≡ is_within most n) where
  pub passes : (n : ℕ) → 1 ≤ n → n ≤ most → test n ≡ true
  unfolding is_within
  passes n low high = let t : (nat_le 1 n && nat_le n most) ≡ true = grind (arith, nat_tests, low, high) in spans n ∙ t

  pub is_below : (n : ℕ) → n < 1 → test n ≡ false
  unfolding is_within
  is_below n low = let t : (nat_le 1 n && nat_le n most) ≡ false = grind (arith, nat_tests, low) in spans n ∙ t

  pub is_above : (n : ℕ) → most < n → test n ≡ false
  unfolding is_within
  is_above n high = let t : (nat_le 1 n && nat_le n most) ≡ false = grind (arith, nat_tests, high) in spans n ∙ t

  pub bounds : (n : ℕ) → test n ≡ true → (1 ≤ n) × (n ≤ most)
  unfolding is_within
  bounds n e = let t : (nat_le 1 n && nat_le n most) ≡ true = sym (spans n) ∙ e in (grind (arith, nat_tests, t), grind (arith, nat_tests, t))

  -- what is read of the numeral of such a number
  read_back : most < 4294967296 → (n : ℕ) (text : List ℕ) → test n ≡ true → numeral n ≡ text → number_of text ≡ Some n
  read_back small n text passed shown = let high = (bounds n passed).1 in ap number_of (sym shown) ∙ number_back n (omega (arith, small, high))

  pub unread : most < 4294967296 → (text : List ℕ) → number_of text ≡ None → (n : ℕ) → test n ≡ true → numeral n ≡ text → ⊥
  unread small text none n passed shown = let some = read_back small n text passed shown in cc

  told_by : (k : ℕ) (text : List ℕ) → number_of text ≡ Some k → (b : Bool) → test k ≡ b → IfOk (ok_or (cond b (Some k) None) Form) (λ n. (numeral n ≡ text) × (test n ≡ true))
  told_by k text read true is = (number_shown k text read, is)
  told_by k text read false is = tt

  refused_by : most < 4294967296 → (k : ℕ) (text : List ℕ) → number_of text ≡ Some k → (b : Bool) → test k ≡ b
      → IfErr (ok_or (cond b (Some k) None) Form) (λ e. (e ≡ Form) × ((n : ℕ) → test n ≡ true → numeral n ≡ text → ⊥))
  refused_by small k text read true is = tt
  refused_by small k text read false is = (refl, λ n passed shown. other n passed (read_back small n text passed shown)) where
    other : (n : ℕ) → test n ≡ true → number_of text ≡ Some n → ⊥
    other n passed some = let same : n ≡ k = cc in let wrong : true ≡ false = sym passed ∙ ap test same ∙ is in absurd (cc)

  -- what a text tells whose number is k
  pub told : (k : ℕ) (text : List ℕ) (r : Result ℕ Bad) → number_of text ≡ Some k → r ≡ ok_or (cond (test k) (Some k) None) Form → IfOk r (λ n. (numeral n ≡ text) × (test n ≡ true))
  told k text r read e = subst (λ x. IfOk x (λ n. (numeral n ≡ text) × (test n ≡ true))) (sym e) (told_by k text read (test k) refl)

  pub refused : most < 4294967296 → (k : ℕ) (text : List ℕ) (r : Result ℕ Bad) → number_of text ≡ Some k → r ≡ ok_or (cond (test k) (Some k) None) Form
      → IfErr r (λ e. (e ≡ Form) × ((n : ℕ) → test n ≡ true → numeral n ≡ text → ⊥))
  refused small k text r read e = subst (λ x. IfErr x (λ e. (e ≡ Form) × ((n : ℕ) → test n ≡ true → numeral n ≡ text → ⊥))) (sym e) (refused_by small k text read (test k) refl)
