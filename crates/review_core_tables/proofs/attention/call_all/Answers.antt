use Rattle.std.proofs.{Common.◌==◌, Common.◌∙◌, Common.sym, Common.arith, lemmas.List.at_drop_all}
use Rattle.{std.specs.List.list_any, review_core_rules.specs.EditedRows.edited_account}
use Rattle.review_core_tables.{proofs.Accounts.kept_where, specs.inner.Words.called_among}
use Rattle.review_core_tables.proofs.attention.call_all.Goals as goal

pub returns-clause-called : goal.returns-clause-called
returns-clause-called g c = λ u.
    let why = g.R.Rule.calls c.args.rule.now u in
    let old = edited_account c.args.attention.now u in
    sym (at_drop_all (λ xs. called_among xs why c.args.request u (edited_account c.loop-account.attention u)) c.args.accounts.now c.loop-account.account-index (omega arith))
    ∙ (c.loop-account.invariant.called u ∙ kept_where (list_any (λ x. x == u) c.args.accounts.now) old why c.args.request)
