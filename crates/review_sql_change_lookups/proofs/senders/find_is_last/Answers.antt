use Rattle.{review_sql_tables.proofs.Common.Ok, review_sql_records.proofs.Common.look_on}
use Rattle.review_sql_change_lookups.proofs.senders.find_is_last.Goals as goal

pub returns-clause-looks : goal.returns-clause-looks
returns-clause-looks g c =
    let n = c.args.change in
    look_on _ _ _ _ c.in_ok-found.found (Ok c.is_last.result) c.in_ok-found.ensures.looks (λ db h. c.is_last.ensures n db h)
