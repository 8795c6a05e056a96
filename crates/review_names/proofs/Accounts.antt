-- The numbers of accounts, read back from their texts.
use Rattle.std.proofs.Common.{◌≡◌, ℕ, ◌≤◌, ap, arith, cond, Some, None, true}
use Rattle.std.{proofs.lemmas.Bool.Decides.nat_tests, specs.Prelude.nat_le, specs.Prelude.◌&&◌}
use Rattle.review_names.{proofs.Numerals.number_back, specs.Names.is_account_number}
use Rattle.review_names.specs.Numerals.{◌>>=◌, numeral, account_of}

pub account_back : (n : ℕ) → 1 ≤ n → n ≤ 1000000 → account_of (numeral n) ≡ Some n
unfolding account_of is_account_number
account_back n low high =
    let test : (nat_le 1 n && nat_le n 1000000) ≡ true = grind (arith, nat_tests, low, high) in
    rw (number_back n (omega arith)) (ap (λ b. cond b (Some n) None) test)
