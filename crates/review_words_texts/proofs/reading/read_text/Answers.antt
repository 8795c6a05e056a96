use Rattle.std.proofs.Common.{List, ℕ, map, sym, ap, ◌∙◌, Bor}
use Rattle.review_words.specs.Texts.{reply_fields}
use Rattle.review_words_texts.proofs.Told.{short_reply, never_uncut, cut_to, told_of}
use Rattle.review_words_texts.proofs.reading.read_text.Goals as goal

pub returns-in_default-clause-reply : goal.returns-in_default-clause-reply
returns-in_default-clause-reply c = λ r stored text.
    absurd (never_uncut (λ v. map (λ f. f.now) v.items) c.in_ok-fields.field-0 (reply_fields r) c.in_default.is
    (c.in_ok-fields.ensures (reply_fields r) (short_reply r stored) (text ∙ sym c.as_bytes.ensures.value)))

pub returns-clause-reply : goal.returns-clause-reply
returns-clause-reply c = λ r stored text.
    let now : Bor (List ℕ) → List ℕ = λ f. f.now in
    let cut = cut_to (λ v. map now v.items) c.in_ok-fields.field-0 c.in-Some.fields (reply_fields r) c.in-Some.is
    (c.in_ok-fields.ensures (reply_fields r) (short_reply r stored) (text ∙ sym c.as_bytes.ensures.value)) in
    told_of r (map now c.deref.result.now) c.read_fields.result stored (ap (map now) c.deref.ensures.value ∙ cut) c.read_fields.ensures.reply
