use Rattle.std.proofs.Common.{◌≡◌, Some, None, subst, sym, rules}
use Rattle.{review_sql_tables.specs.Search.HasGreatest, review_sql_change_records.specs.Forms.change_places}
use Rattle.review_sql_change_lookups.proofs.Placed.{last_joined_damaged, last_place_is, no_last_place}
use Rattle.review_sql_change_lookups.specs.Joins.{IsLastPlace}
use Rattle.review_sql_change_lookups.proofs.joins.last_place.Goals as goal

pub returns-in-Some-Some : goal.returns-in-Some-Some
returns-in-Some-Some c = λ key db great.
    let last = c.in-Some-Some.last in
    let some : c.args.found ≡ Some (Some last) = search rules in
    subst (IsLastPlace key db) (sym c.from.ensures) (last_place_is db key last.0 last.1 (subst (HasGreatest change_places 8 key db) some great))

pub returns-in-Some-None : goal.returns-in-Some-None
returns-in-Some-None c = λ key db great.
    let odd : c.args.found ≡ Some None = search rules in
    last_joined_damaged db key (subst (HasGreatest change_places 8 key db) odd great)

pub returns-in-None : goal.returns-in-None
returns-in-None c = λ key db great.
    let none : c.args.found ≡ None = search rules in
    no_last_place db key (subst (HasGreatest change_places 8 key db) none great)
