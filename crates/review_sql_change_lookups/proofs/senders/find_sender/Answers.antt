use Rattle.review_sql_tables.proofs.Common.{◌≡◌, ◌∙◌, true, Ok, sym, rules}
use Rattle.review_sql_records.proofs.Common.{look_both, look_on}
use Rattle.review_sql_change_lookups.proofs.senders.find_sender.Goals as goal

pub returns-clause-looks : goal.returns-clause-looks
returns-clause-looks g c =
    let n = c.args.change in
    let p = c.args.patch in
    let both = look_both _ _ _ _ _ c.in_ok-header.header (Ok c.in_ok-row.row) c.in_ok-header.ensures.looks c.in_ok-row.ensures.looks in
    look_on _ _ _ _ c.in_ok-row.row (Ok c.sent_by.result) both (λ db h. c.sent_by.ensures n p db h.0 h.1)

pub returns-then-is_odd-clause-looks : goal.returns-then-is_odd-clause-looks
returns-then-is_odd-clause-looks g c =
    let n = c.args.change in
    let p = c.args.patch in
    let is : c.is_odd.result ≡ true = search rules in
    let both = look_both _ _ _ _ _ c.in_ok-header.header (Ok c.in_ok-branch.branch) c.in_ok-header.ensures.looks c.in_ok-branch.ensures.looks in
    look_on _ _ _ _ c.in_ok-branch.branch (Ok c.odd_sender.result) both (λ db h. c.odd_sender.ensures.tells c.args.merged n p db (sym h.0 ∙ c.is_odd.ensures.0 is))
