use Rattle.std.proofs.Common.{◌≡◌, [], ◌∷◌, subst, IfOk, codes, string_bytes}
use Rattle.review_words.specs.Texts.{text_of}
use Rattle.review_words_texts.proofs.content.account_text.Goals as goal

pub returns : goal.returns
returns c = subst (λ name. IfOk c.joined.result (λ t. string_bytes t ≡ text_of (codes "CreateAccount" ∷ name ∷ []))) c.as_str.ensures.text c.joined.ensures
