use Rattle.std.proofs.Common.{Some}
use Rattle.review_sql_tables.{proofs.Keys.row_put, proofs.Sequences.next, proofs.Sequences.told, specs.Search.SetsRow}
use Rattle.review_sql_tables.proofs.changes.replace.Goals as goal

pub returns-clause-ran : goal.returns-clause-ran
returns-clause-ran g c =
    let s = g.T.Record.table.search in
    let key = c.args.key.now in
    let row = c.args.row.now in
    told _ (SetsRow s key (Some row)) _ _ _ (tt {0}) (λ old new h. row_put s g.T.Record.table.form g.T.Record.table.keeps key row c.in_ok-remove.ensures.formed c.in_ok-insert.ensures.good old new h)
    (next _ _ _ _ _ _ _ c.in_ok-remove.ensures.ran c.in_ok-insert.ensures.ran)
