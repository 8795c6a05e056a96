use Rattle.std.proofs.Common.{sym}
use Rattle.review_expr_spelling.proofs.Digits.{digits_small, long_none, empty_none}
use Rattle.review_expr_spelling.proofs.values.read_digits.Goals as goal

pub returns-in-len1-clause-small : goal.returns-in-len1-clause-small
returns-in-len1-clause-small c = rw c.one_digit.ensures (digits_small _)

pub returns-in-len2-clause-small : goal.returns-in-len2-clause-small
returns-in-len2-clause-small c = rw c.two_digits.ensures (digits_small _)

pub returns-in_default-clause-number : goal.returns-in_default-clause-number
returns-in_default-clause-number c = sym (empty_none c.args.text.now (rw c.as_bytes.ensures.value at c.in_default.len_below))

pub returns-in_default-2-clause-number : goal.returns-in_default-2-clause-number
returns-in_default-2-clause-number c = sym (long_none c.args.text.now (rw c.as_bytes.ensures.value at c.in_default.len_at_least))
