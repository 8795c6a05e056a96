use Rattle.std.proofs.{Common.IsUtf8, lemmas.Str.IsUtf8-from_is_utf8}
use Rattle.review_sql_tables.proofs.Common.{rules, ◌≡◌, ◌∙◌, ℕ, List, Some, None, ap, sym, refl, inl, inr, cases_Bool, is_utf8-from_IsUtf8, is_utf8, column, Value, Text, text_in}
use Rattle.review_sql_tables.proofs.columns.text_at.Goals as goal

reads : (v : Value) (t : List ℕ) → v ≡ Text t → IsUtf8 t → text_in v ≡ Some t
reads v t is good = rw (is, is_utf8-from_IsUtf8 t good) refl

is_odd : (v : Value) (t : List ℕ) → v ≡ Text t → (IsUtf8 t → ⊥) → text_in v ≡ None
is_odd v t is bad = elim (cases_Bool (is_utf8 t)) [ inl good ↦ absurd (bad (IsUtf8-from_is_utf8 t good)) | inr other ↦ rw (is, other) refl ]

pub returns-in-Ok : goal.returns-in-Ok
returns-in-Ok c =
    let is : column c.args.row.now c.args.at ≡ Text c.in-Ok-Text.bytes.now = search rules in
    let h = c.in-Ok.ensures.cases in
    ap Some h.0 ∙ sym (reads _ c.in-Ok-Text.bytes.now is h.1)

pub returns-in-Err : goal.returns-in-Err
returns-in-Err c =
    let is : column c.args.row.now c.args.at ≡ Text c.in-Ok-Text.bytes.now = search rules in
    sym (is_odd _ c.in-Ok-Text.bytes.now is c.in-Err.ensures.cases.0)
