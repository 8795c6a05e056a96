use Rattle.std.proofs.Common.{◌∙◌, ◌≡◌, refl, false, subst, sym, option_copied, IfOk}
use Rattle.std.proofs.lemmas.Result.{IfOk-weaker}
use Rattle.review_words.specs.declared.{command.Command.TheVariants.PutProject, faults.FileFault.FileFault}
use Rattle.review_words.specs.declared.reply.Refusal.TheVariants.{BadFile, NotAdmin}
use Rattle.{review_words.specs.declared.reply.Reply.TheVariants.Refused, review_file_rules.specs.Reading.IsReadFault}
use Rattle.review_machine_laws.proofs.Checked.{admin_is}
use Rattle.review_machine_accounts.proofs.Decided.{project_refused, refused_pair}
use Rattle.review_machine_accounts.specs.Decisions.{IsEmpty}
use Rattle.review_machine_needs.proofs.Filed.{fault_decided, put_decided, undecided_by, unreadable_by}
use Rattle.review_machine_needs.specs.inner.Files.{IsPut}
use Rattle.review_file_rules.specs.declared.fault.ReadFault.TheVariants as read
use Rattle.review_machine_needs.proofs.projects.put_project.Goals as goal

pub returns-then-not-admin-clause-decided : goal.returns-then-not-admin-clause-decided
returns-then-not-admin-clause-decided c = λ reading h known l.
    let a = c.args in
    let command = PutProject a.project.now a.file.now in
    let admin = sym (admin_is h a.caller command a.rows.now refl l) ∙ (sym c.in_ok-admin.ensures ∙ c.if-not-admin.true) in
    refused_pair h a.caller command c.refused.result NotAdmin c.refused.ensures.empty c.refused.ensures.reply (project_refused reading h a.caller a.project.now a.file.now false known admin)

pub returns-in-Ok-clause-decided : goal.returns-in-Ok-clause-decided
returns-in-Ok-clause-decided c =
    let a = c.args in
    let own = c.in-Ok.new.file in
    IfOk-weaker c.put_file.result (λ r. IsPut a.rows.now (option_copied a.effective) a.project.now (record { text = a.file.now; parent = own.parent }) own r.0 r.1) _
    (λ r put reading h known l.
    let admin = sym (admin_is h a.caller (PutProject a.project.now a.file.now) a.rows.now refl l) ∙ (sym c.in_ok-admin.ensures ∙ c.if-not-admin.false) in
    put_decided c.one_effective_file.ensures reading h a.caller a.project.now a.file.now (option_copied a.effective) a.rows.now l own c.in-Ok.ensures.read known admin r.0 r.1 put)
    (subst (λ t. IfOk c.put_file.result (λ r. IsPut a.rows.now (option_copied a.effective) a.project.now (record { text = t; parent = own.parent }) own r.0 r.1)) c.in-Ok.ensures.text c.put_file.ensures.put)

pub returns-in-Ok-clause-cause : goal.returns-in-Ok-clause-cause
returns-in-Ok-clause-cause c =
    undecided_by c.one_effective_file.ensures c.args.caller c.args.project.now c.args.file.now (option_copied c.args.effective) c.args.rows.now c.in-Ok.new.file c.put_file.result c.in-Ok.ensures.read c.put_file.ensures.cause

pub returns-in-Err-clause-decided : goal.returns-in-Err-clause-decided
returns-in-Err-clause-decided c =
    let a = c.args in
    IfOk-weaker c.refuse_file.result (λ r. IsEmpty r.0 × ((f : FileFault) × (c.in-Err.fault ≡ read.File f) × (r.1 ≡ Refused (BadFile f)))) _
    (λ r x reading h known l.
    let admin = sym (admin_is h a.caller (PutProject a.project.now a.file.now) a.rows.now refl l) ∙ (sym c.in_ok-admin.ensures ∙ c.if-not-admin.false) in
    fault_decided reading h a.caller a.project.now a.file.now r x.1.0 known admin x.0 (subst (IsReadFault a.file.now) x.1.1 c.in-Err.ensures.fault) x.1.2)
    c.refuse_file.ensures.file

pub returns-in-Err-clause-cause : goal.returns-in-Err-clause-cause
returns-in-Err-clause-cause c =
    let a = c.args in
    unreadable_by a.caller a.project.now a.file.now (option_copied a.effective) a.rows.now c.in-Err.fault c.refuse_file.result
    c.in-Err.ensures.fault c.refuse_file.ensures.cause
