use Rattle.std.proofs.Common.{◌≡◌, ◌∷◌, [], IfOk, string_bytes, sym, subst, codes}
use Rattle.review_names.specs.Numerals.{numeral}
use Rattle.review_words.specs.Texts.{content_text, text_of}
use Rattle.review_words_texts.proofs.content.content_text.Goals as goal

pub returns-in-CloseEpoch : goal.returns-in-CloseEpoch
returns-in-CloseEpoch c =
    subst (λ k. IfOk c.joined-in-CloseEpoch.result (λ t. string_bytes t ≡ content_text k)) (sym c.in-CloseEpoch.is)
    (subst (λ n. IfOk c.joined-in-CloseEpoch.result (λ t. string_bytes t ≡ text_of (codes "CloseEpoch" ∷ numeral n ∷ []))) c.get-in-CloseEpoch.ensures.value c.joined-in-CloseEpoch.ensures)
