use Rattle.std.proofs.{Common.◌≡◌, Common.true, Common.sym, Common.subst, lemmas.Bool.and_from}
use Rattle.{std.proofs.lemmas.Str.is_utf8-from_IsUtf8, std.specs.Str.is_utf8, review_sql_records.specs.Forms.is_parent}
use Rattle.review_sql_records.proofs.projects.parent_text.Goals as goal

pub returns-in-Some-clause-good : goal.returns-in-Some-clause-good
returns-in-Some-clause-good c =
    subst (λ p. is_parent p ≡ true) (sym c.in-Some.is) (and_from _ _ (subst (λ t. is_utf8 t ≡ true) c.as_str.ensures.text (is_utf8-from_IsUtf8 c.as_str.result.now c.as_str.utf8)) c.as_str.ensures.form)
