use Rattle.std.proofs.{Common.refl, lemmas.Result.IfOk-weaker}
use Rattle.review_http.proofs.response.fault_text.Goals as goal

pub returns : goal.returns
returns c =
    let text = rw c.in_ok-value.ensures at c.to_string.ensures.text in
    IfOk-weaker c.to_string.result _ _ (λ s h. h refl) text
