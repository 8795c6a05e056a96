use Rattle.review_sql_tables.proofs.Common.{rules, ◌≡◌, Option, None, Ok, sym, subst, state, Inside, SetsRow}
use Rattle.review_sql_tables.proofs.{Keys.row_gone, Sequences.told}
use Rattle.review_sql_tables.proofs.changes.change.Goals as goal

pub returns-in_ok-remove-in-None-clause-ran : goal.returns-in_ok-remove-in-None-clause-ran
returns-in_ok-remove-in-None-clause-ran g c =
    let a = state g.S.Store c.args.tx.now.conn.now in
    let m = state g.S.Store c.remove.new.tx.conn.now in
    let s = g.T.Record.table.search in
    let key = c.args.key.now in
    let it = told _ (SetsRow s key None) a m _ (tt {0}) (λ old new h. row_gone s g.T.Record.table.form g.T.Record.table.keeps key old new c.in_ok-remove-in-None.ensures.formed h) c.in_ok-remove-in-None.ensures.ran in
    let none : c.args.row.now ≡ None = search rules in
    subst (λ (r : Option g.row.T-Item.Denot). Inside (SetsRow s key r) a m (Ok (tt {0}))) (sym none) it
