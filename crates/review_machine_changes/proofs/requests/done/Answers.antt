use Rattle.{std.proofs.Common.option_copied, std.proofs.lemmas.Result.IfOk-weaker, review_core_rules.specs.Seen.seen}
use Rattle.review_machine_changes.proofs.Requested.{plain_unless, plainly_is_done}
use Rattle.review_machine_changes.proofs.requests.done.Goals as goal

pub returns-in_default-clause-made : goal.returns-in_default-clause-made
returns-in_default-clause-made c =
    let a = c.args in
    IfOk-weaker c.plainly_done.result _ _
    (λ r made. plainly_is_done (option_copied a.effective) a.change a.command.now a.caller a.rows.now (seen a.file.now.rows.now) r.0 r.1 (plain_unless a.command.now c.in_default.not-Upload c.in_default.not-Review) made)
    c.plainly_done.ensures.made
