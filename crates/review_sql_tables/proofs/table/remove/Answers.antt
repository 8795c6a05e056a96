use Rattle.review_sql_tables.proofs.Common.{◌≡◌, ◌∙◌, state, bound, values_of}
use Rattle.review_sql_tables.proofs.{Effects.deleted, Sequences.one_inside, Sequences.opened}
use Rattle.review_sql_tables.proofs.table.remove.Goals as goal

pub returns-clause-ran : goal.returns-clause-ran
returns-clause-ran g c =
    let old = state g.S.Store c.args.tx.now.conn.now in
    let new = state g.S.Store c.execute.new.self.conn.now in
    let s = g.T.Record.table.search in
    let key = c.args.key.now in
    let values : bound c.as_slice.result.now ≡ values_of (s.at key) = c.as_slice.ensures ∙ c.in_ok-values.ensures.values in
    one_inside _ _ old new c.execute.result _ (λ count ready h. deleted _ old new ready count s.tree (s.at key) (g.T.Record.table.deletes key) h) (λ clean on. rw (c.delete.ensures, c.writes.ensures, values) at (c.execute.ensures.runs clean on)) c.execute.ensures.survives

pub returns-clause-open : goal.returns-clause-open
returns-clause-open g c clean on =
    opened _ _ (state g.S.Store c.args.tx.now.conn.now) (state g.S.Store c.execute.new.self.conn.now) c.execute.result (c.execute.ensures.runs clean on)
