use Rattle.review_sql_tables.proofs.{Common.rules, Common.◌≡◌, Common.Some, Common.SetsRow, Keys.row_new}
use Rattle.review_sql_tables.{proofs.Sequences.told_ready, specs.declared.table.Sets.TheVariants.PutsIn}
use Rattle.review_sql_tables.proofs.changes.set.Goals as goal

pub returns-in-Ok-clause-ran : goal.returns-in-Ok-clause-ran
returns-in-Ok-clause-ran g c =
    let s = g.T.Record.table.search in
    let key = c.args.key.now in
    let row = c.args.row.now in
    let puts : g.T.Record.table.writes.sets ≡ PutsIn = search rules in
    told_ready _ (SetsRow s key (Some row)) _ _ _ (tt {0})
    (λ old new ready h. row_new s g.T.Record.table.form g.T.Record.table.keeps key row c.in-Ok.ensures.formed c.in-Ok.ensures.good old.trees new.trees (g.T.Record.table.single puts new ready key) h) c.in-Ok.ensures.ran
