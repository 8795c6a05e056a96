use Rattle.std.proofs.Common.{◌≡◌, ◌∙◌, Some, false, sym, ap, rules}
use Rattle.review_machine_rows.specs.Rows.{BaseRow}
use Rattle.review_sql_lookups.{proofs.Odd.base_damaged, specs.Tables.told}
use Rattle.review_sql_change_lookups.proofs.bases.stands_at.Goals as goal

pub returns-then-stands : goal.returns-then-stands
returns-then-stands c = λ db one is.
    let stored : c.args.found ≡ Some (Some c.args.base.now.commit) = search rules in
    (c.args.place, ap (told BaseRow) (sym is ∙ stored))

pub returns : goal.returns
returns c = λ db one is.
    let other : c.stands.result ≡ false = search rules in
    base_damaged db c.args.base.now c.args.place c.args.found one is (c.stands.ensures.other other)
