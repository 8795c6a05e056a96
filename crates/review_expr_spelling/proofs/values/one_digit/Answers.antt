use Rattle.std.proofs.Common.{◌≡◌, ◌-◌, [], ◌∷◌, Some, None, sym, ◌∙◌, arith}
use Rattle.std.proofs.lemmas.Bool.Decides.{nat_tests}
use Rattle.review_expr_spelling.proofs.Digits.{short, digits_short}
use Rattle.review_expr_spelling.proofs.values.one_digit.Goals as goal

pub returns-then-digit-le57 : goal.returns-then-digit-le57
returns-then-digit-le57 c = let e : Some (c.args.digit - 48) ≡ short (c.args.digit ∷ []) = grind (arith, nat_tests) in e ∙ sym (digits_short (c.args.digit ∷ []))

pub returns-else-digit-ge48 : goal.returns-else-digit-ge48
returns-else-digit-ge48 c = let e : None ≡ short (c.args.digit ∷ []) = grind (arith, nat_tests) in e ∙ sym (digits_short (c.args.digit ∷ []))
