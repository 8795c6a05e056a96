use Rattle.std.proofs.Common.{◌∙◌, ap, sym, option_copied, option_map}
use Rattle.{review_words.specs.declared.command.Query.TheVariants.OnChange, review_core_rules.specs.Seen.seen}
use Rattle.review_machine_changes.proofs.Told.{err_with}
use Rattle.review_machine_submits.proofs.Loaded.{answered, none_answered, change_told, untold}
use Rattle.review_machine_submits.proofs.questions.show_on.Goals as goal

pub returns-then-not-known-clause-shown : goal.returns-then-not-known-clause-shown
returns-then-not-known-clause-shown c = λ reading h l.
    let a = c.args in
    c.is_asker-known.ensures.refused c.if-not-known.true reading (option_copied a.effective) h (OnChange a.change a.query) l

pub returns-in_default-clause-shown : goal.returns-in_default-clause-shown
returns-in_default-clause-shown c = λ reading h l.
    let a = c.args in
    let known = sym (c.is_asker-known.ensures.told reading (option_copied a.effective) h (OnChange a.change a.query) l) ∙ c.if-not-known.false in
    none_answered reading h a.caller a.change a.query known
    (sym (change_told reading h a.caller a.change a.query (option_copied a.effective) a.rows.now l) ∙ (sym c.change.ensures ∙ ap (λ o. option_map (λ r. seen r) (option_copied o)) c.in_default.is))

pub returns-in_err-told-clause-cause : goal.returns-in_err-told-clause-cause
returns-in_err-told-clause-cause c =
    let a = c.args in
    let there = sym c.change.ensures ∙ ap (λ o. option_map (λ r. seen r) (option_copied o)) c.in-Some.is in
    err_with _ c.from_residual.result c.in_err-told.field-0.0 c.from_residual.ensures
    (untold c.changes_are_sound.ensures a.caller a.change a.query (option_copied a.effective) a.rows.now (seen c.in-Some.found.now) c.in_err-told.field-0.0 there c.in_err-told.ensures.cause)

pub returns-clause-shown : goal.returns-clause-shown
returns-clause-shown c = λ reading h l.
    let a = c.args in
    let effective = option_copied a.effective in
    let known = sym (c.is_asker-known.ensures.told reading effective h (OnChange a.change a.query) l) ∙ c.if-not-known.false in
    let there = sym c.change.ensures ∙ ap (λ o. option_map (λ r. seen r) (option_copied o)) c.in-Some.is in
    answered c.one_effective_file.ensures c.groups_suffice.ensures.change reading h a.caller a.change a.query effective a.rows.now (seen c.in-Some.found.now) c.in_ok-told.told known there l
    c.in_ok-told.ensures.told
