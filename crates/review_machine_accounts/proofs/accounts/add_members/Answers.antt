use Rattle.std.proofs.Common.{◌++◌, ◌∷◌, [], ◌∙◌, ap, sym}
use Rattle.review_table.specs.Rows.{rows_of}
use Rattle.review_machine_accounts.{proofs.Members.added_more, specs.inner.Words.added}
use Rattle.review_machine_accounts.proofs.accounts.add_members.Goals as goal

pub loop-account-preserved : goal.loop-account-preserved
loop-account-preserved c =
    let group = c.args.group.now in
    let rows = rows_of c.args.held.now in
    let account = c.account-item.result in
    c.in_ok-add_member.ensures
    ∙ (ap (λ changes. changes ++ added group rows (account ∷ [])) c.loop-account.invariant
    ∙ sym (added_more group rows c.as_slice-account-items.result.now c.loop-account.account-index account c.loop-account-test.true c.account-item.is))

pub returns-clause-ordered : goal.returns-clause-ordered
returns-clause-ordered c = c.as_slice-account-items.ensures.ordered
