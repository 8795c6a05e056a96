use Rattle.std.proofs.Common.{◌≡◌, ◌∙◌, Some, false, refl, sym, ap, rules}
use Rattle.review_machine_rows.specs.Rows.{AccountRow}
use Rattle.review_sql_lookups.{proofs.Odd.holder_damaged, specs.Tables.told}
use Rattle.review_sql_lookups.proofs.people.tell_holder.Goals as goal

pub returns : goal.returns
returns c = λ db one is.
    let named : c.args.named ≡ Some (Some c.args.name.now) = search rules in
    (Some c.args.number, refl, ap (told AccountRow) (sym is ∙ named))

pub returns-then-not-is_named : goal.returns-then-not-is_named
returns-then-not-is_named c = λ db one is.
    let other : c.is_named.result ≡ false = search rules in
    holder_damaged db c.args.name.now c.args.number c.args.named one is (c.is_named.ensures.other other)
