use Rattle.{review_sql_tables.proofs.Common.Ok, review_sql_records.proofs.Common.look_on}
use Rattle.review_sql_lookups.proofs.branches.find_bases.Goals as goal

pub returns-clause-looks : goal.returns-clause-looks
returns-clause-looks g c =
    look_on _ _ _ _ c.in_ok-found.found (Ok c.tell_bases.result) c.in_ok-found.ensures.looks (λ db h. c.tell_bases.ensures c.args.branch.now db h)
