use Rattle.std.proofs.Common.{◌≡◌, ◌⊎◌, IfOk, inl, inr, subst, ⊎_elim}
use Rattle.review_machine_rows.proofs.Common.{Damaged, IfErr-weaker, IsSound, Memory, option_copied, seen}
use Rattle.review_machine_changes.proofs.Told.{err_with}
use Rattle.review_machine_submits.specs.inner.Told.{IsToldBy, LacksFile}
use Rattle.review_machine_submits.proofs.questions.answer_about.Goals as goal

pub returns-in_err-file-clause-cause : goal.returns-in_err-file-clause-cause
returns-in_err-file-clause-cause c =
    let effective = option_copied c.args.effective in
    let x = seen c.args.found.now in
    err_with (λ e. (e ≡ Memory) ⊎ ((e ≡ Damaged) × ((IsSound x → ⊥) ⊎ LacksFile effective c.args.query))) c.from_residual.result c.in_err-file.field-0.0 c.from_residual.ensures
    (⊎_elim (λ m. inl m) (λ d. inr (d.0, inl d.1)) c.in_err-file.ensures.cause)

pub returns-clause-told : goal.returns-clause-told
returns-clause-told c = subst (λ x. IfOk c.answer_by.result (IsToldBy (option_copied c.args.effective) c.args.rows.now.groups c.args.change c.args.query x)) c.in_ok-file.ensures.file c.answer_by.ensures.told

pub returns-clause-cause : goal.returns-clause-cause
returns-clause-cause c =
    let effective = option_copied c.args.effective in
    let x = seen c.args.found.now in
    IfErr-weaker c.answer_by.result (λ e. (e ≡ Memory) ⊎ ((e ≡ Damaged) × LacksFile effective c.args.query)) (λ e. (e ≡ Memory) ⊎ ((e ≡ Damaged) × ((IsSound x → ⊥) ⊎ LacksFile effective c.args.query)))
    (λ e. ⊎_elim (λ m. inl m) (λ d. inr (d.0, inr d.1))) c.answer_by.ensures.cause
