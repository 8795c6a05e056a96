use Rattle.std.proofs.Common.{◌≡◌, true, false, Some, is_some, sym, ap, ◌∙◌, arith}
use Rattle.review_names.specs.Forms.{is_label}
use Rattle.review_expr_spelling.proofs.Fronts.{passed_over, uncut_over, taken_front}
use Rattle.review_expr_spelling.proofs.labels.label_front.Goals as goal

pub returns-in_default-clause-none : goal.returns-in_default-clause-none
returns-in_default-clause-none c =
    uncut_over c.args.end c.args.value.now c.requires c.utf8.value
    (λ boundary. let some : is_some c.split_at_checked.result ≡ true = c.split_at_checked.ensures.variant.1 boundary in let none : false ≡ true = rw c.in_default.is at some in cc)

pub returns-then-is_met-clause-front : goal.returns-then-is_met-clause-front
returns-then-is_met-clause-front c =
    let front = c.in-Some.ensures.front in
    let back = c.in-Some.ensures.back in
    let length = c.in-Some.ensures.back_len in
    taken_front c.args.end c.args.value.now c.requires (omega (arith, length)) (ap is_label (sym front) ∙ sym c.is_met.ensures ∙ c.if-is_met.true)
    ∙ (λ i. Some (sym front i, sym back i))

pub returns-else-is_met-clause-none : goal.returns-else-is_met-clause-none
returns-else-is_met-clause-none c =
    passed_over c.args.end c.args.value.now c.requires (ap is_label (sym c.in-Some.ensures.front) ∙ sym c.is_met.ensures ∙ c.if-is_met.false)
