use Rattle.std.proofs.Common.{◌∙◌, sym}
use Rattle.{review_machine_rows.proofs.Common.PutGroup, review_machine_laws.proofs.Checked.put_group_told}
use Rattle.review_machine_accounts.proofs.Decided.{put_decided, refused_pair}
use Rattle.review_machine_accounts.proofs.accounts.put_group.Goals as goal

pub returns-in-Some-clause-decided : goal.returns-in-Some-clause-decided
returns-in-Some-clause-decided c = λ reading effective h account l.
    let a = c.args in
    refused_pair h a.caller (PutGroup a.group.now a.members.now) c.refused.result c.in-Some.refusal c.refused.ensures.empty c.refused.ensures.reply
    (put_group_told reading h a.caller effective a.rows.now a.group.now a.members.now account l ∙ (sym c.in_ok-refusal.ensures ∙ c.in-Some.is))

pub returns-clause-decided : goal.returns-clause-decided
returns-clause-decided c = λ reading effective h account l.
    let a = c.args in
    let empty = c.nothing-delta.ensures in
    put_decided h a.caller a.group.now a.members.now a.rows.now _ l
    (put_group_told reading h a.caller effective a.rows.now a.group.now a.members.now account l ∙ (sym c.in_ok-refusal.ensures ∙ c.in_default.is))
    (record { accounts = empty.accounts; members = c.in_ok-changes.ensures.changes; file = empty.file; base = empty.base; changes = empty.changes; epoch = empty.epoch })
