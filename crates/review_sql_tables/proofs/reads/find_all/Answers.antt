use Rattle.review_sql_tables.proofs.Common.{rules, ◌≡◌, subst, option_map, Ok, WereRead}
use Rattle.review_sql_tables.proofs.Found.{look_on, all_found}
use Rattle.review_sql_tables.proofs.reads.find_all.Goals as goal

pub returns-clause-looks : goal.returns-clause-looks
returns-clause-looks g c =
    let s = g.L.Lookup.search in
    let key = c.args.key.now in
    let rows = c.in_ok-rows.rows in
    let same : c.deref.result.now ≡ rows.items = search rules in
    look_on _ _ _ _ rows (Ok c.in_ok-read_all.field-0) c.in_ok-rows.ensures.looks
    (λ db h. all_found s db key rows.items _ (subst (λ l. WereRead s.read l (option_map (λ items. items.items) c.in_ok-read_all.field-0)) same c.in_ok-read_all.ensures) h)
