use Rattle.std.proofs.Common.{Some, ◌∙◌, ap, sym, option_copied, option_map}
use Rattle.review_machine_rows.proofs.Common.{NoChange, OnChange, seen}
use Rattle.review_machine_rows.specs.{Answer.request_checks, Desks.facts_by}
use Rattle.review_machine_laws.proofs.Changes.{all_pass, request_fits}
use Rattle.review_machine_accounts.proofs.Decided.{refused_pair}
use Rattle.review_machine_changes.proofs.Requested.{absent_told, done_decided, lacking_undecided, present_told}
use Rattle.review_machine_changes.proofs.Told.{err_with, unsound_undecided}
use Rattle.review_machine_changes.proofs.requests.on_change.Goals as goal

pub returns-in_default-clause-decided : goal.returns-in_default-clause-decided
returns-in_default-clause-decided c = λ reading h room account l.
    let a = c.args in
    refused_pair h a.caller (OnChange a.change a.command.now) c.refused.result NoChange c.refused.ensures.empty c.refused.ensures.reply
    (absent_told c.one_effective_file.ensures reading h a.caller a.change a.command.now (option_copied a.effective) a.rows.now account
    (sym c.change.ensures ∙ ap (λ o. option_map (λ r. seen r) (option_copied o)) c.in_default.is) l)

pub returns-then-lacks_file-clause-cause : goal.returns-then-lacks_file-clause-cause
returns-then-lacks_file-clause-cause c =
    let a = c.args in
    let there = sym c.change.ensures ∙ ap (λ o. option_map (λ r. seen r) (option_copied o)) c.in-Some.is in
    lacking_undecided a.caller a.change a.command.now (option_copied a.effective) a.rows.now (seen c.in-Some.found.now) there (sym c.lacks_file.ensures ∙ c.if-lacks_file.true)

pub returns-in_err-file-clause-cause : goal.returns-in_err-file-clause-cause
returns-in_err-file-clause-cause c =
    let a = c.args in
    let there = sym c.change.ensures ∙ ap (λ o. option_map (λ r. seen r) (option_copied o)) c.in-Some.is in
    err_with _ c.from_residual.result c.in_err-file.field-0.0 c.from_residual.ensures
    (unsound_undecided c.changes_are_sound.ensures a.caller a.change a.command.now (option_copied a.effective) a.rows.now (seen c.in-Some.found.now) c.in_err-file.field-0.0 there c.in_err-file.ensures.cause)

pub returns-in-Some-refusal-clause-decided : goal.returns-in-Some-refusal-clause-decided
returns-in-Some-refusal-clause-decided c = λ reading h room account l.
    let a = c.args in
    let x = seen c.in_ok-file.file.rows.now in
    let there = sym c.change.ensures ∙ (ap (λ o. option_map (λ r. seen r) (option_copied o)) c.in-Some.is ∙ ap Some (sym c.in_ok-file.ensures.file)) in
    refused_pair h a.caller (OnChange a.change a.command.now) c.refused-in-Some-refusal.result c.in-Some-refusal.refusal c.refused-in-Some-refusal.ensures.empty c.refused-in-Some-refusal.ensures.reply
    (present_told c.one_effective_file.ensures reading h a.caller a.change a.command.now (option_copied a.effective) a.rows.now x account there l ∙ (sym c.in_ok-refusal.ensures ∙ c.in-Some-refusal.is))

pub done-requires-clause-fits : goal.done-requires-clause-fits
done-requires-clause-fits c =
    let a = c.args in
    let x = seen c.in_ok-file.file.rows.now in
    let facts = facts_by a.rows.now (option_copied a.effective) in
    request_fits facts a.caller a.command.now x (all_pass (request_checks facts a.caller a.command.now x) (sym c.in_ok-refusal.ensures ∙ c.in_default-refusal.is))

pub returns-clause-decided : goal.returns-clause-decided
returns-clause-decided c = λ reading h room account l.
    let a = c.args in
    let x = seen c.in_ok-file.file.rows.now in
    let effective = option_copied a.effective in
    let there = sym c.change.ensures ∙ (ap (λ o. option_map (λ r. seen r) (option_copied o)) c.in-Some.is ∙ ap Some (sym c.in_ok-file.ensures.file)) in
    let passes = present_told c.one_effective_file.ensures reading h a.caller a.change a.command.now effective a.rows.now x account there l ∙ (sym c.in_ok-refusal.ensures ∙ c.in_default-refusal.is) in
    done_decided c.one_effective_file.ensures c.groups_suffice.ensures.vote reading h a.caller a.change a.command.now effective a.rows.now x c.in_ok-done.field-0.0 c.in_ok-done.field-0.1 room there l passes c.in_ok-done.ensures.made
