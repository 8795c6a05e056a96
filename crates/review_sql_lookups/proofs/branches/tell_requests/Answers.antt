use Rattle.std.proofs.Common.{◌≡◌, ◌∙◌, Some, None, refl, sym, ap, rules}
use Rattle.review_sql_records.specs.declared.rows.DeskRow.{DeskRow}
use Rattle.review_sql_lookups.{proofs.Odd.desk_damaged, specs.Tables.number_of, specs.Tables.tables_at}
use Rattle.review_sql_lookups.proofs.branches.tell_requests.Goals as goal

pub returns-in-Some-Some : goal.returns-in-Some-Some
returns-in-Some-Some c = λ db is bounded.
    let row = c.in-Some-Some.row in
    let found : c.args.found ≡ Some (Some row) = search rules in
    let same : row.requests ≡ (tables_at db).requests = ap (number_of (λ (d : DeskRow). d.requests)) (sym found ∙ is) in
    ((row.requests, refl, same), c.learn_requests.ensures (tables_at db) bounded same)

pub returns-in-Some-None : goal.returns-in-Some-None
returns-in-Some-None c = λ db is bounded.
    let odd : c.args.found ≡ Some None = search rules in
    (desk_damaged db (ap (number_of (λ (d : DeskRow). d.version)) (sym is ∙ odd)), bounded)

pub returns-in-None : goal.returns-in-None
returns-in-None c = λ db is bounded.
    let none : c.args.found ≡ None = search rules in
    (desk_damaged db (ap (number_of (λ (d : DeskRow). d.version)) (sym is ∙ none)), bounded)
