use Rattle.std.proofs.Common.{◌≡◌, Some, None, refl, subst, rules}
use Rattle.review_machine_rows.specs.Known.{HaveJoined}
use Rattle.review_sql_lookups.specs.{Loads.IfTold, Tables.tables_at}
use Rattle.review_sql_change_lookups.proofs.joins.tell_joined.Goals as goal

pub returns-in-Some : goal.returns-in-Some
returns-in-Some c = λ branch db have.
    let joined = c.in-Some.joined in
    let is : c.args.found ≡ Some joined = search rules in
    (joined, refl, subst (IfTold db (HaveJoined (tables_at db).row branch)) is have)

pub returns-in-None : goal.returns-in-None
returns-in-None c = λ branch db have.
    let none : c.args.found ≡ None = search rules in
    subst (IfTold db (HaveJoined (tables_at db).row branch)) none have
