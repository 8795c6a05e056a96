use Rattle.{std.proofs.Common.◌≡◌, std.proofs.Common.◌∙◌, sqlite.specs.Held.state, sqlite.specs.Values.bound}
use Rattle.review_sql_tables.{proofs.Cut.asked_last, proofs.Sequences.look, specs.Texts.values_of}
use Rattle.review_sql_tables.proofs.greatest.select_last.Goals as goal

pub returns-clause-looks : goal.returns-clause-looks
returns-clause-looks g c =
    let old = state g.S.Store c.args.tx.now.conn.now in
    let new = state g.S.Store c.query_all.new.self.conn.now in
    let s = g.G.Greatest.search in
    let key = c.args.key.now in
    let asks = g.met.G.Greatest.asks key in
    let values : bound c.as_slice.result.now ≡ values_of (s.at key) = c.as_slice.ensures ∙ c.in_ok-values.ensures in
    look (λ v. v.items) _ _ old new c.query_all.result _ asks.plain (λ x has h. asked_last _ s.tree (s.at key) s.columns g.G.Greatest.place asks old new x.items has h)
    (λ clean. rw (c.text.ensures, c.SQL.ensures, values) at (c.query_all.ensures.ok clean)) (λ clean. rw (c.text.ensures, c.SQL.ensures, values) at (c.query_all.ensures.err clean)) c.query_all.ensures.survives
