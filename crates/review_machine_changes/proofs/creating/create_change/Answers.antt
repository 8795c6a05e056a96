use Rattle.std.proofs.Common.{◌≡◌, ◌+◌, ◌∙◌, ap, sym, subst, length, true, option_copied}
use Rattle.review_names.specs.Forms.{is_within, most_changes}
use Rattle.review_machine_rows.proofs.Common.{CreateChange, begun}
use Rattle.review_machine_laws.proofs.{Checked.asked_beside, Checked.create_change_told, Told.last_change_told}
use Rattle.review_machine_accounts.proofs.Decided.{refused_pair}
use Rattle.review_machine_changes.proofs.Made.{change_within, first_within, request_is, stored_numbers}
use Rattle.review_machine_changes.proofs.Told.{create_decided, number_left}
use Rattle.review_machine_changes.proofs.creating.create_change.Goals as goal

pub returns-in-Some-clause-decided : goal.returns-in-Some-clause-decided
returns-in-Some-clause-decided c = λ reading h room known l.
    let a = c.args in
    refused_pair h a.caller (CreateChange a.new.now) c.refused.result c.in-Some.refusal c.refused.ensures.empty c.refused.ensures.reply
    (create_change_told reading h a.caller (option_copied a.effective) a.rows.now c.one_effective_file.ensures a.new.now known l ∙ (sym c.in_ok-refusal.ensures ∙ c.in-Some.is))

pub next_change-change-requires : goal.next_change-change-requires
next_change-change-requires c =
    let a = c.args in
    subst (λ n. is_within most_changes (n + 1) ≡ true) (sym c.last_change.ensures)
    (change_within _ (number_left (option_copied a.effective) a.rows.now a.caller a.new.now (sym c.in_ok-refusal.ensures ∙ c.in_default.is)))

pub returns-clause-decided : goal.returns-clause-decided
returns-clause-decided c = λ reading h room known l.
    let a = c.args in
    let command = CreateChange a.new.now in
    let passes = create_change_told reading h a.caller (option_copied a.effective) a.rows.now c.one_effective_file.ensures a.new.now known l ∙ (sym c.in_ok-refusal.ensures ∙ c.in_default.is) in
    let number = c.next_change-change.ensures ∙ ap (λ k. k + 1) (c.last_change.ensures ∙ last_change_told reading h a.rows.now l.agree (asked_beside h a.caller command a.rows.now l).1.0) in
    let request : c.next_request-request.result ≡ length h + 1 = c.next_request-request.ensures ∙ request_is reading h a.caller command (option_copied a.effective) a.rows.now room l in
    create_decided reading h a.caller a.new.now c.next_change-change.result c.patch_of-patch.result (begun a.new.now a.caller c.next_request-request.result) c.in_ok-edit.edit c.in_ok-delta.delta
    passes number c.patch_of-patch.ensures (λ i. begun a.new.now a.caller (request i)) c.in_ok-edit.ensures.change c.in_ok-edit.ensures.becomes
    c.in_ok-delta.ensures.edits

pub returns-clause-once : goal.returns-clause-once
returns-clause-once c = c.in_ok-delta.ensures.once c.in_ok-edit.ensures.once

pub returns-clause-stored : goal.returns-clause-stored
returns-clause-stored c =
    let a = c.args in
    stored_numbers c.next_change-change.result c.last_change.result c.patch_of-patch.result c.next_change-change.ensures
    (subst (λ n. is_within most_changes (n + 1) ≡ true) (sym c.last_change.ensures)
    (change_within _ (number_left (option_copied a.effective) a.rows.now a.caller a.new.now (sym c.in_ok-refusal.ensures ∙ c.in_default.is))))
    c.patch_of-patch.ensures

pub patch_of-patch-requires : goal.patch_of-patch-requires
patch_of-patch-requires c = first_within
