use Rattle.std.proofs.Common.{◌≡◌, Ok}
use Rattle.review_sql_tables.{proofs.Found.look_on, specs.Search.row_at}
use Rattle.review_sql_lookups.proofs.told.find_told.Goals as goal

pub returns-clause-looks : goal.returns-clause-looks
returns-clause-looks g c =
    look_on (λ db found. found ≡ row_at g.L.Lookup.search db c.args.key.now) _ _ _ c.in_ok-found.found (Ok c.tell.result) c.in_ok-found.ensures.looks (λ db h. c.tell.ensures c.args.key.now db h)
