use Rattle.std.proofs.Common.{◌++◌, ◌∙◌, ap, sym, subst, map}
use Rattle.review_machine_rows.proofs.Common.{NamesOnce, deref_pair, member_cmp, rows_of}
use Rattle.review_machine_accounts.{proofs.Members.changes_once, specs.inner.Words.added, specs.inner.Words.dropped}
use Rattle.review_machine_accounts.proofs.accounts.changes_from.Goals as goal

pub returns-clause-once : goal.returns-clause-once
returns-clause-once c =
    let group = c.args.group.now in
    let members = c.args.members.now in
    let rows = rows_of c.args.held.now in
    subst (NamesOnce member_cmp)
    (sym (c.in_ok-drop_members.ensures
    ∙ ((λ i. c.in_ok-changes.ensures.changes i ++ dropped group (map deref_pair (c.deref.ensures.value i)) members)
    ∙ ap (λ held. added group rows members ++ dropped group held members) c.in_ok-before.ensures.rows)))
    (changes_once group members rows c.in_ok-changes.ensures.ordered c.in_ok-before.ensures.sorted)
