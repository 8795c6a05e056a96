use Rattle.review_sql_tables.proofs.Common.{[], sym, subst, AllByRecursion, state, FindsIds}
use Rattle.review_sql_tables.proofs.{Meaning.asked_ids, Sequences.look, TextsOfTables.ids_at}
use Rattle.review_sql_tables.proofs.rowids.select_ids.Goals as goal

pub returns-clause-looks : goal.returns-clause-looks
returns-clause-looks g c =
    let old = state g.S.Store c.args.tx.now.conn.now in
    let new = state g.S.Store c.query_all.new.self.conn.now in
    let it = ids_at c.args.at [] c.requires in
    let text = c.ids_text.ensures [] in
    look (λ v. v.items) _ _ old new c.query_all.result _ it.2.plain (λ x has h. subst (λ l. AllByRecursion (λ t. FindsIds t.tree old.now.trees x.items) l) (sym it.1) (asked_ids _ it.0.tree it.2 old new x.items has h, tt))
    (λ clean. rw text at (c.query_all.ensures.ok clean)) (λ clean. rw text at (c.query_all.ensures.err clean)) c.query_all.ensures.survives
