use Rattle.std.proofs.Common.{refl, rules, Some, None, ◌≡◌}
use Rattle.review_sql_records.specs.{Forms.where_is, Forms.is_small, Laws.passed}
use Rattle.review_sql_lookups.{proofs.Odd.last_account_damaged, proofs.Telling.last_account, specs.Loads.last_of}
use Rattle.review_sql_lookups.proofs.people.LastAccountToldByGreatest.tell.Goals as goal

pub returns-in-Some : goal.returns-in-Some
returns-in-Some c = λ key db great.
    let number = c.in-Some.number in
    let is : where_is is_small (last_of c.args.found) ≡ Some number = search rules in
    rw (c.from.ensures) (number, refl, last_account db c.args.found number great (passed is_small _ number is))

pub returns-in-None : goal.returns-in-None
returns-in-None c = λ key db great.
    let none : where_is is_small (last_of c.args.found) ≡ None = search rules in
    last_account_damaged db c.args.found great none
