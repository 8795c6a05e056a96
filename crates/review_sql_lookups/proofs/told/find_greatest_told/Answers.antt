use Rattle.{std.proofs.Common.Ok, review_sql_tables.proofs.Found.look_on, review_sql_tables.specs.Search.HasGreatest}
use Rattle.review_sql_lookups.proofs.told.find_greatest_told.Goals as goal

pub returns-clause-looks : goal.returns-clause-looks
returns-clause-looks g c =
    look_on (λ db found. HasGreatest g.G.Greatest.search g.G.Greatest.place c.args.key.now db found) _ _ _ c.in_ok-found.found (Ok c.tell.result) c.in_ok-found.ensures.looks (λ db h. c.tell.ensures c.args.key.now db h)
