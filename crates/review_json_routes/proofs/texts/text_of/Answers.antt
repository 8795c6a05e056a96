use Rattle.std.proofs.Common.{◌≡◌, ℕ, List, false, Some, ap, IsUtf8}
use Rattle.std.proofs.lemmas.{Bool.false_from_ne_true, Str.IsUtf8-from_is_utf8, Str.is_utf8-from_IsUtf8}
use Rattle.std.specs.Str.{is_utf8}
use Rattle.review_json_routes.proofs.texts.text_of.Goals as goal

not_utf8 : (bs : List ℕ) → ¬ (IsUtf8 bs) → is_utf8 bs ≡ false
not_utf8 bs h = false_from_ne_true (is_utf8 bs) (λ e. h (IsUtf8-from_is_utf8 bs e))

pub returns-in-Ok : goal.returns-in-Ok
returns-in-Ok c = rw (is_utf8-from_IsUtf8 _ c.in-Ok.ensures.cases.1) (ap Some c.in-Ok.ensures.cases.0)

pub returns-in-Err : goal.returns-in-Err
returns-in-Err c = rw (not_utf8 _ c.in-Err.ensures.cases.0)
