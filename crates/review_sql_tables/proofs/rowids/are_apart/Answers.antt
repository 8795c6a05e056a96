use Rattle.review_sql_tables.proofs.Common.{[], rules, ◌≡◌, subst, Ok, Decides, AreOwn, firsts, table_at}
use Rattle.review_sql_tables.proofs.{Found.look_on, Ids.decides_at, TextsOfTables.ids_at}
use Rattle.review_sql_tables.proofs.rowids.are_apart.Goals as goal

pub returns-clause-looks : goal.returns-clause-looks
returns-clause-looks g c =
    let it = ids_at c.args.at [] c.requires in
    let rows = c.in_ok-rows.rows in
    let same : c.deref.result.now ≡ rows.items = search rules in
    look_on _ _ _ _ rows (Ok c.in_ok-are_own.field-0) c.in_ok-rows.ensures.looks
    (λ db h. decides_at (table_at c.args.at) it.0 db rows.items c.in_ok-are_own.field-0 it.1 h (subst (λ l. Decides c.in_ok-are_own.field-0 (AreOwn (firsts l))) same c.in_ok-are_own.ensures))
