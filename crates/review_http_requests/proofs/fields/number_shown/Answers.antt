use Rattle.std.proofs.Common.{◌≡◌, ◌+◌, ◌∙◌, ℕ, List, ◌∷◌, drop, get_or, drop-cons, add-one, sym, subst, arith}
use Rattle.review_http_requests.{proofs.Given.told, proofs.Given.told_next, specs.Heads.digits_after}
use Rattle.review_http_requests.proofs.fields.number_shown.Goals as goal

pub loop-b-preserved : goal.loop-b-preserved
loop-b-preserved c =
    let i = c.loop-b.b-index in
    let text = c.args.text.now in
    let next : told (digits_after c.min-number.result (drop (i + 1) text)) ≡ told (digits_after c.loop-b.number (get_or text i 0 ∷ drop (i + 1) text)) =
    told_next c.loop-b.number c.min-number.result (get_or text i 0) (drop (i + 1) text) (sym c.is_ascii_digit.ensures.value ∙ c.if-not-is_ascii_digit.false) c.min-number.ensures in
    let P : List ℕ → Type 0 = λ l. told (digits_after c.min-number.result (drop (i + 1) text)) ≡ told (digits_after c.loop-b.number l) in
    let Q : ℕ → Type 0 = λ k. drop i text ≡ get_or text i 0 ∷ drop k text in
    (subst P (sym (subst Q (sym (add-one i)) (drop-cons text i 0 c.loop-b-test.true))) next ∙ c.loop-b.invariant.0, omega (arith, c.min-number.ensures))
