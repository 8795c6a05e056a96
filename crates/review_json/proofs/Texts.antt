-- Texts of whole numbers, and tokens that were put one after the other.
use Rattle.std.proofs.Common.{◌≡◌, ℤ, pos, negsuc, List, [], ◌++◌, refl, ap, ◌∙◌, append_assoc}
use Rattle.{std.specs.Fmt.signed_decimal, json.specs.Print.print, json.specs.Token.Token}
use Rattle.serde_json.proofs.Texts.{print-outline}
use Rattle.serde_json.specs.{Data.Data, Find.of_integer, Written.compact_text, Written.number_text}
use Rattle.review_json.specs.Tokens.{HasPut, value_tokens}

-- the text of a whole number as JSON is that number in decimal
pub integer_text : (z : ℤ) → number_text (of_integer z) ≡ signed_decimal z
integer_text (pos n) = refl
integer_text (negsuc n) = refl

-- what was put first and what was put then
pub and_then : {s t u a b : List Token} → HasPut s t a → HasPut t u b → HasPut s u (a ++ b)
and_then {s} {t} {u} {a} {b} first then = record { whole = then.whole ∙ ap (λ x. x ++ b) first.whole ∙ append_assoc s a b }

-- what is read of a text with a value's tokens alone
pub whole_text : {old new : List Token} (value : Data) → old ≡ [] → HasPut old new (value_tokens value) → print new ≡ compact_text value
whole_text value none put = ap print (put.whole ∙ ap (λ x. x ++ value_tokens value) none) ∙ print-outline value
