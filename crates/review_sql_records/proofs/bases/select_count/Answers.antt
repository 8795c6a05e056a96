use Rattle.review_sql_tables.proofs.Common.{◌≡◌, [], ◌∷◌, refl, state, bound, Text, bases}
use Rattle.review_sql_tables.proofs.TextsOfLookups.{count_bases}
use Rattle.review_sql_records.proofs.Common.{asked_count, look}
use Rattle.review_sql_records.proofs.bases.select_count.Goals as goal

pub returns-clause-looks : goal.returns-clause-looks
returns-clause-looks g c =
    let old = state g.S.Store c.args.tx.now.conn.now in
    let new = state g.S.Store c.query_all.new.self.conn.now in
    let asks = count_bases c.args.project.now in
    let values : bound c.as_slice.result.now ≡ Text c.args.project.now ∷ [] = rw (c.as_slice.ensures, c.text-values.ensures.values, c.new.ensures, c.as_str.ensures.text) refl in
    look (λ v. v.items) _ _ old new c.query_all.result _ asks.plain (λ x has h. asked_count _ bases.tree ((1, Text c.args.project.now) ∷ []) asks old new x.items has h)
    (λ clean. rw values at (c.query_all.ensures.ok clean)) (λ clean. rw values at (c.query_all.ensures.err clean)) c.query_all.ensures.survives
