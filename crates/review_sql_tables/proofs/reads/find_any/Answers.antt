use Rattle.review_sql_tables.proofs.Common.{rules, ◌≡◌, ◌∙◌, ap, subst, sym, Ok, HasOne, first_as}
use Rattle.review_sql_tables.proofs.Found.{look_on, any_found}
use Rattle.review_sql_tables.proofs.reads.find_any.Goals as goal

pub returns-clause-looks : goal.returns-clause-looks
returns-clause-looks g c =
    let s = g.L.Lookup.search in
    let key = c.args.key.now in
    let rows = c.in_ok-rows.rows in
    let same : c.deref.result.now ≡ rows.items = search rules in
    look_on _ _ _ _ rows (Ok c.in_ok-read_any.field-0) c.in_ok-rows.ensures.looks
    (λ db h. subst (HasOne s key db) (sym (c.in_ok-read_any.ensures ∙ ap (first_as s.read) same)) (any_found s db key rows.items h))
