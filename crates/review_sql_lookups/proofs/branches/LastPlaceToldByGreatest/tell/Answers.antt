use Rattle.std.proofs.Common.{refl, rules, Some, None, ◌≡◌}
use Rattle.review_sql_records.specs.{Forms.where_is, Forms.is_small, Laws.passed}
use Rattle.review_sql_lookups.{proofs.Odd.last_place_damaged, proofs.Telling.last_place, specs.Loads.last_of}
use Rattle.review_sql_lookups.proofs.branches.LastPlaceToldByGreatest.tell.Goals as goal

pub returns-in-Some : goal.returns-in-Some
returns-in-Some c = λ branch db great.
    let place = c.in-Some.place in
    let is : where_is is_small (last_of c.args.found) ≡ Some place = search rules in
    rw (c.from.ensures) (place, refl, last_place db branch c.args.found place great (passed is_small _ place is))

pub returns-in-None : goal.returns-in-None
returns-in-None c = λ branch db great.
    let none : where_is is_small (last_of c.args.found) ≡ None = search rules in
    last_place_damaged db branch c.args.found great none
