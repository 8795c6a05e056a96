use Rattle.{std.proofs.Common.◌≡◌, std.proofs.Common.◌∙◌, sqlite.specs.Held.state, sqlite.specs.Values.bound}
use Rattle.review_sql_tables.proofs.{Effects.inserted, Sequences.one_inside, Sequences.opened, Sequences.refused}
use Rattle.review_sql_tables.proofs.table.insert.Goals as goal

pub returns-clause-ran : goal.returns-clause-ran
returns-clause-ran g c =
    let old = state g.S.Store c.args.tx.now.conn.now in
    let new = state g.S.Store c.execute.new.self.conn.now in
    let s = g.T.Record.table.search in
    let form = g.T.Record.table.form in
    let key = c.args.key.now in
    let row = c.args.row.now in
    let values : bound c.as_slice.result.now ≡ form.values key row = c.as_slice.ensures ∙ c.in_ok-values.ensures.values in
    one_inside _ _ old new c.execute.result _ (λ count ready h. inserted _ old new ready count s.tree (form.values key row) (form.stored key row) (g.T.Record.table.inserts key row) h) (λ clean on. rw (c.insert.ensures, c.writes.ensures, values) at (c.execute.ensures.runs clean on)) c.execute.ensures.survives

pub returns-clause-open : goal.returns-clause-open
returns-clause-open g c clean on =
    opened _ _ (state g.S.Store c.args.tx.now.conn.now) (state g.S.Store c.execute.new.self.conn.now) c.execute.result (c.execute.ensures.runs clean on)

pub returns-clause-refused : goal.returns-clause-refused
returns-clause-refused g c clean on =
    refused _ _ (state g.S.Store c.args.tx.now.conn.now) (state g.S.Store c.execute.new.self.conn.now) c.execute.result on (c.execute.ensures.runs clean on)
