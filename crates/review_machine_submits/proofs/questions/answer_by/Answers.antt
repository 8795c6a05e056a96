use Rattle.std.proofs.Common.{ap, subst, sym}
use Rattle.{std.specs.Option.option_copied, review_words.specs.declared.command.ChangeQuery.TheVariants.Requirements}
use Rattle.review_core_rules.specs.{Seen.seen, Shown.IsToldOf}
use Rattle.review_machine_submits.specs.inner.Told.{IsToldBy, setting_by}
use Rattle.review_machine_submits.proofs.questions.answer_by.Goals as goal

pub returns-in_ok-standing-in-Some-clause-told : goal.returns-in_ok-standing-in-Some-clause-told
returns-in_ok-standing-in-Some-clause-told c =
    let a = c.args in
    let told = c.in_ok-standing-in-Some.field-0 in
    subst (λ q. IsToldBy (option_copied a.effective) a.groups.now a.change q (seen a.file.now.rows.now) told) (sym c.in-Requirements.is)
    (subst (λ effective. IsToldBy effective a.groups.now a.change Requirements (seen a.file.now.rows.now) told) (sym (ap option_copied c.in-Some.is))
    (subst (λ r. IsToldOf (setting_by c.in-Some.project.now a.groups.now) a.change Requirements (seen r.now) told) c.rows-rows.ensures.same (c.in_ok-standing-in-Some.ensures a.change)))
