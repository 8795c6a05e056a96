use Rattle.std.proofs.Common.{◌≡◌, Bor, IfOk, Option, Some, ap, option_copied, subst, sym}
use Rattle.review_words.specs.declared.command.ChangeCommand.TheVariants.{Upload}
use Rattle.review_core_rules.specs.{Seen.seen, declared.rows.ChangeRows.ChangeRows}
use Rattle.review_machine_rows.proofs.Common.{ChangeCommand, File}
use Rattle.review_machine_rows.specs.{Answer.first_refusal, Answer.request_checks, Desks.facts_by}
use Rattle.review_machine_changes.proofs.refusing.request_refusal.Goals as goal

-- the checks of a new patch set are those of the request, by the file that there is
pub returns-in-Some : goal.returns-in-Some
returns-in-Some c =
    let a = c.args in
    let file : option_copied a.effective ≡ Some c.in-Some.project.now = ap option_copied c.in-Some.is in
    subst (λ (f : Option File). IfOk c.upload_refusal.result (λ r. r ≡ first_refusal (request_checks (facts_by a.rows.now f) a.caller a.command.now (seen a.file.now.rows.now)))) (sym file)
    (subst (λ (m : ChangeCommand). IfOk c.upload_refusal.result (λ r. r ≡ first_refusal (request_checks (facts_by a.rows.now (Some c.in-Some.project.now)) a.caller m (seen a.file.now.rows.now)))) (sym c.in-Upload.is)
    (subst (λ (x : Bor ChangeRows). IfOk c.upload_refusal.result (λ r. r ≡ first_refusal (request_checks (facts_by a.rows.now (Some c.in-Some.project.now)) a.caller (Upload c.in-Upload.patch) (seen x.now)))) c.rows-change.ensures.same c.upload_refusal.ensures))
