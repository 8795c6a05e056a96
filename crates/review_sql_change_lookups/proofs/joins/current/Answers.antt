use Rattle.std.proofs.Common.{◌≡◌, ◌∙◌, Some, None, sym, rules}
use Rattle.review_sql_change_lookups.proofs.Placed.{current_told, set_damaged}
use Rattle.review_sql_change_lookups.proofs.joins.current.Goals as goal

pub returns-in-Some : goal.returns-in-Some
returns-in-Some c = λ n db great at.
    let some : c.args.found ≡ Some c.in-Some.patch = search rules in
    current_told db n c.args.number c.args.found c.in-Some.patch great at some

pub returns-in-None : goal.returns-in-None
returns-in-None c = λ n db great at.
    let none : c.args.found ≡ None = search rules in
    set_damaged db n c.args.number c.args.found great at (λ x some. let bad = sym none ∙ some in cc)
