use Rattle.std.proofs.Common.{◌∙◌, Some, ap, subst, sym, option_copied, option_map}
use Rattle.review_machine_rows.proofs.Common.{AreEnough, Damaged, IfErr-weaker, IfOk-weaker, IsUndecided, NoChange, OfCommand, Submit, not-true, seen}
use Rattle.review_machine_rows.specs.{Answer.submit_checks, Desks.facts_by}
use Rattle.{review_machine_laws.proofs.Changes.all_pass, review_machine_accounts.proofs.Decided.refused_pair}
use Rattle.review_machine_submits.proofs.Decided.{absent_told, submit_decided, lacking_undecided, refused_told, unchained_undecided}
use Rattle.review_machine_submits.proofs.submitting.submit.Goals as goal

pub returns-in_default-clause-decided : goal.returns-in_default-clause-decided
returns-in_default-clause-decided c = λ reading h room history account l.
    let a = c.args in
    refused_pair h a.caller (Submit a.change) c.refused.result NoChange c.refused.ensures.empty c.refused.ensures.reply
    (absent_told c.one_effective_file.ensures reading h a.caller a.change (option_copied a.effective) a.rows.now account
    (sym c.change.ensures ∙ ap (λ o. option_map (λ r. seen r) (option_copied o)) c.in_default.is) l)

pub returns-in_default-effective-clause-cause : goal.returns-in_default-effective-clause-cause
returns-in_default-effective-clause-cause c =
    let a = c.args in
    let there = sym c.change.ensures ∙ ap (λ o. option_map (λ r. seen r) (option_copied o)) c.in-Some.is in
    subst (λ o. IsUndecided a.caller (Submit a.change) o a.rows.now Damaged) (sym (ap option_copied c.in_default-effective.is))
    (lacking_undecided a.caller a.change a.rows.now (seen c.in-Some.found.now) there)

pub returns-in-Some-refusal-clause-decided : goal.returns-in-Some-refusal-clause-decided
returns-in-Some-refusal-clause-decided c = λ reading h room history account l.
    let a = c.args in
    let there = sym c.change.ensures ∙ ap (λ o. option_map (λ r. seen r) (option_copied o)) c.in-Some.is in
    refused_pair h a.caller (Submit a.change) c.refused-in-Some-refusal.result c.in-Some-refusal.refusal c.refused-in-Some-refusal.ensures.empty c.refused-in-Some-refusal.ensures.reply
    (refused_told c.one_effective_file.ensures reading h a.caller a.change c.in-Some-effective.file.now a.rows.now (seen c.in-Some.found.now) account there
    (subst (λ o. AreEnough reading h a.caller (OfCommand (Submit a.change)) o a.rows.now) (ap option_copied c.in-Some-effective.is) l)
    ∙ (sym c.in_ok-refusal.ensures ∙ c.in-Some-refusal.is))

pub returns-clause-decided : goal.returns-clause-decided
returns-clause-decided c =
    let a = c.args in
    let x = seen c.in-Some.found.now in
    let there = sym c.change.ensures ∙ ap (λ o. option_map (λ r. seen r) (option_copied o)) c.in-Some.is in
    IfOk-weaker c.submit_chain.result _ _
    (λ r submitted reading h room history account l.
    let enough = subst (λ o. AreEnough reading h a.caller (OfCommand (Submit a.change)) o a.rows.now) (ap option_copied c.in-Some-effective.is) l in
    submit_decided c.one_effective_file.ensures c.groups_suffice.ensures.change c.rows_are_parts.ensures.part c.last_is_length.ensures c.joined_few.ensures reading h a.caller a.change c.in-Some-effective.file.now a.rows.now x r.0 r.1 room history there
    enough
    (refused_told c.one_effective_file.ensures reading h a.caller a.change c.in-Some-effective.file.now a.rows.now x account there enough ∙ (sym c.in_ok-refusal.ensures ∙ c.in_default-refusal.is)) submitted)
    c.submit_chain.ensures.submitted

pub returns-clause-cause : goal.returns-clause-cause
returns-clause-cause c =
    let a = c.args in
    let x = seen c.in-Some.found.now in
    let there = sym c.change.ensures ∙ ap (λ o. option_map (λ r. seen r) (option_copied o)) c.in-Some.is in
    let pass = all_pass (submit_checks (facts_by a.rows.now (Some c.in-Some-effective.file.now)) a.caller x) (sym c.in_ok-refusal.ensures ∙ c.in_default-refusal.is) in
    IfErr-weaker c.submit_chain.result _ _
    (λ e is. unchained_undecided c.changes_are_sound.ensures c.branches_are_whole.ensures c.rows_are_parts.ensures.part c.wants_are_unknown.ensures a.caller a.change (option_copied a.effective) a.rows.now x there pass.1.0 (not-true x.wip pass.1.1.0) e is)
    c.submit_chain.ensures.cause
