use Rattle.{review_sql_tables.proofs.Common.Ok, review_sql_records.proofs.Common.look_on}
use Rattle.review_sql_change_lookups.proofs.bases.find_base.Goals as goal

pub returns-clause-looks : goal.returns-clause-looks
returns-clause-looks g c =
    look_on _ _ _ _ c.in_ok-is.is' (Ok c.tell_base.result) c.in_ok-is.ensures.looks (λ db h. c.tell_base.ensures c.args.base.now db h)
