-- Texts that are the numbers of accounts.
use Rattle.std.proofs.Common.{◌≡◌, ℕ, ◌≤◌, List, true, false, cond, Option, None, Some, refl, sym, ap, ◌∙◌, arith}
use Rattle.std.proofs.lemmas.Bool.{false_from_ne_true, Decides.nat_tests}
use Rattle.review_names.{proofs.Numerals.number_back, proofs.Numerals.number_shown, specs.Names.is_account_number}
use Rattle.review_names.specs.Numerals.{numeral, account_of, number_of, ◌>>=◌}

pub account_bounds : (n : ℕ) → is_account_number n ≡ true → (1 ≤ n) × (n ≤ 1000000)
unfolding is_account_number
account_bounds n e = (grind (arith, nat_tests, e), grind (arith, nat_tests, e))

abbrev account_by : Option ℕ → Option ℕ
account_by o = o >>= (λ n. cond (is_account_number n) (Some n) None)

pub account_back : (n : ℕ) → is_account_number n ≡ true → account_of (numeral n) ≡ Some n
unfolding account_of
account_back n e =
    let bounds = account_bounds n e in
    ap account_by (number_back n (omega (arith, bounds.1))) ∙ ap (λ b. cond b (Some n) None) e

pub account_yes : (n : ℕ) (text : List ℕ) → numeral n ≡ text → is_account_number n ≡ true → account_of text ≡ Some n
account_yes n text shown e = ap account_of (sym shown) ∙ account_back n e

none_by : (o : Option ℕ) → ((n : ℕ) → o ≡ Some n → is_account_number n ≡ false) → account_by o ≡ None
none_by None h = refl
none_by (Some n) h = ap (λ b. cond b (Some n) None) (h n refl)

pub account_no : (text : List ℕ) → ((n : ℕ) → is_account_number n ≡ true → numeral n ≡ text → ⊥) → account_of text ≡ None
unfolding account_of
account_no text h = none_by (number_of text) (λ n read. false_from_ne_true (is_account_number n) (λ e. h n e (number_shown n text read)))
