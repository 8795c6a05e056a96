-- Whole numbers, as `write!` prints them.
use Rattle.std.proofs.Common.{◌≡◌, ℕ, suc, pos, negsuc, ◌+◌, ◌<◌, ◌^◌, ◌∷◌, ap, ◌∙◌, arith}
use Rattle.{std.specs.Fmt.signed_decimal, review_names.proofs.Numerals.decimal_numeral}
use Rattle.{review_names.specs.Numerals.numeral, review_words.specs.Texts.signed}

pub signed_decimal_pos : (n : ℕ) → n < 2 ^ 64 → signed_decimal (pos n) ≡ signed (pos n)
signed_decimal_pos n h = decimal_numeral n h

pub signed_decimal_neg : (n : ℕ) → n + 1 < 2 ^ 64 → signed_decimal (negsuc n) ≡ signed (negsuc n)
signed_decimal_neg n h = let e : suc n ≡ n + 1 = omega arith in ap (λ ds. 45 ∷ ds) (decimal_numeral (suc n) (omega arith) ∙ ap numeral e)
