use Rattle.review_sql_tables.proofs.Common.{◌≡◌, ◌∙◌, state, bound, Remakes}
use Rattle.review_sql_tables.proofs.{Effects.updated, Sequences.one_counted, Sequences.opened}
use Rattle.review_sql_tables.proofs.table.update.Goals as goal

pub returns-clause-ran : goal.returns-clause-ran
returns-clause-ran g c =
    let old = state g.S.Store c.args.tx.now.conn.now in
    let new = state g.S.Store c.execute.new.self.conn.now in
    let s = g.T.Record.table.search in
    let form = g.T.Record.table.form in
    let key = c.args.key.now in
    let row = c.args.row.now in
    let values : bound c.as_slice.result.now ≡ form.values key row = c.as_slice.ensures ∙ c.in_ok-values.ensures.values in
    one_counted _ _ old new c.execute.result (Remakes s.tree (s.at key) (form.stored key row))
    (λ count ready h. updated _ old new ready count s.tree (s.at key) (form.values key row) (form.stored key row) (g.met.T.Rewritten.updates key row) (λ id. g.T.Record.table.keeps.keyed key row id) h)
    (λ clean on. rw (c.text.ensures, c.UPDATE.ensures, values) at (c.execute.ensures.runs clean on)) c.execute.ensures.survives

pub returns-clause-open : goal.returns-clause-open
returns-clause-open g c clean on =
    opened _ _ (state g.S.Store c.args.tx.now.conn.now) (state g.S.Store c.execute.new.self.conn.now) c.execute.result (c.execute.ensures.runs clean on)
