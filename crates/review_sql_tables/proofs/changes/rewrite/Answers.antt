use Rattle.review_sql_tables.proofs.Common.{◌≡◌, Some, arith, SetsRow}
use Rattle.review_sql_tables.proofs.Keys.{row_remade, row_again, row_then_first}
use Rattle.review_sql_tables.proofs.Sequences.{next, told, weaker}
use Rattle.review_sql_tables.proofs.changes.rewrite.Goals as goal

pub returns-then-count-eq1-clause-ran : goal.returns-then-count-eq1-clause-ran
returns-then-count-eq1-clause-ran g c =
    let s = g.T.Record.table.search in
    let key = c.args.key.now in
    let row = c.args.row.now in
    let count = c.in_ok-count.count in
    let one : count ≡ 1 = omega (arith, c.if-count-eq1.true) in
    told _ (SetsRow s key (Some row)) _ _ count (tt {0}) (λ old new h. row_remade s g.T.Record.table.form g.T.Record.table.keeps key row c.in_ok-count.ensures.formed c.in_ok-count.ensures.good old new count h one) c.in_ok-count.ensures.ran

pub returns-then-count-gt1-clause-ran : goal.returns-then-count-gt1-clause-ran
returns-then-count-gt1-clause-ran g c =
    let s = g.T.Record.table.search in
    let key = c.args.key.now in
    let row = c.args.row.now in
    let count = c.in_ok-count.count in
    weaker _ (SetsRow s key (Some row)) _ _ c.replace.result (λ old new h. row_again s g.T.Record.table.form g.T.Record.table.keeps key row c.in_ok-count.ensures.formed c.in_ok-count.ensures.good old h.0 count h.1 new h.2)
    (next _ _ _ _ _ count c.replace.result c.in_ok-count.ensures.ran c.replace.ensures.ran)

pub returns-clause-ran : goal.returns-clause-ran
returns-clause-ran g c =
    let s = g.T.Record.table.search in
    let key = c.args.key.now in
    let row = c.args.row.now in
    let count = c.in_ok-count.count in
    let none : count ≡ 0 = omega (arith, c.if-count-eq1.false, c.if-count-gt1.false) in
    told _ (SetsRow s key (Some row)) _ _ _ (tt {0}) (λ old new h. row_then_first s g.T.Record.table.form g.T.Record.table.keeps key row c.in_ok-count.ensures.formed c.in_ok-count.ensures.good old h.0 count h.1 none new h.2)
    (next _ _ _ _ _ count _ c.in_ok-count.ensures.ran c.in_ok-insert.ensures.ran)
