use Rattle.{std.proofs.Common.[], sqlite.specs.Held.state, review_sql_tables.proofs.Counting.asked_count}
use Rattle.review_sql_tables.{proofs.Sequences.look, proofs.TextsOfLookups.count_projects, specs.Desk.projects_2}
use Rattle.review_sql_records.proofs.projects.select_count.Goals as goal

pub returns-clause-looks : goal.returns-clause-looks
returns-clause-looks g c =
    let old = state g.S.Store c.args.tx.now.conn.now in
    let new = state g.S.Store c.query_all.new.self.conn.now in
    look (λ v. v.items) _ _ old new c.query_all.result _ count_projects.plain (λ x has h. asked_count _ projects_2.tree [] count_projects old new x.items has h)
    (λ clean. c.query_all.ensures.ok clean) (λ clean. c.query_all.ensures.err clean) c.query_all.ensures.survives
