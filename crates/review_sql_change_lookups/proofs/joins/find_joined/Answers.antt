use Rattle.{std.proofs.Common.Ok, review_sql_tables.proofs.Found.look_on}
use Rattle.review_sql_change_lookups.proofs.Joined.{KnowsAll}
use Rattle.review_sql_change_lookups.proofs.joins.find_joined.Goals as goal

pub returns-clause-looks : goal.returns-clause-looks
returns-clause-looks g c =
    look_on (KnowsAll c.args.branch.now) _ _ _ c.in_ok-found.found (Ok c.tell_joined.result) c.in_ok-found.ensures.looks (λ db h. c.tell_joined.ensures c.args.branch.now db h)
