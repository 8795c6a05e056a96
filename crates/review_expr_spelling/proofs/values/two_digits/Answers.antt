use Rattle.std.proofs.Common.{◌≡◌, ◌+◌, ◌*◌, ◌-◌, [], ◌∷◌, Some, None, sym, ◌∙◌, arith}
use Rattle.std.proofs.lemmas.Bool.Decides.{nat_tests}
use Rattle.review_expr_spelling.proofs.Digits.{short, digits_short}
use Rattle.review_expr_spelling.proofs.values.two_digits.Goals as goal

pub returns-then-ones-le57 : goal.returns-then-ones-le57
returns-then-ones-le57 c =
    let e : Some ((c.args.tens - 48) * 10 + (c.args.ones - 48)) ≡ short (c.args.tens ∷ c.args.ones ∷ []) = grind (arith, nat_tests) in
    e ∙ sym (digits_short (c.args.tens ∷ c.args.ones ∷ []))

pub returns-else-tens-gt48 : goal.returns-else-tens-gt48
returns-else-tens-gt48 c =
    let e : None ≡ short (c.args.tens ∷ c.args.ones ∷ []) = grind (arith, nat_tests) in
    e ∙ sym (digits_short (c.args.tens ∷ c.args.ones ∷ []))
