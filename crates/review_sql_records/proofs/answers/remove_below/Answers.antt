use Rattle.review_sql_tables.proofs.Common.{rules, ◌≡◌, ◌∙◌, [], ◌∷◌, pos, state, bound, Int}
use Rattle.review_sql_tables.proofs.{Effects.deleted_below, Sequences.one_inside, Sequences.opened}
use Rattle.{review_sql_tables.proofs.TextsOfChanges.delete_answers_below, review_sql_records.proofs.Common.answers}
use Rattle.review_sql_records.proofs.answers.remove_below.Goals as goal

pub returns-clause-ran : goal.returns-clause-ran
returns-clause-ran g c =
    let old = state g.S.Store c.args.tx.now.conn.now in
    let new = state g.S.Store c.execute.new.self.conn.now in
    let values : bound c.as_slice.result.now ≡ Int (pos c.args.epoch) ∷ [] = c.as_slice.ensures ∙ search rules in
    one_inside _ _ old new c.execute.result _ (λ count ready h. deleted_below _ old new ready count answers.tree 2 1 3 c.args.epoch delete_answers_below h) (λ clean on. rw values at (c.execute.ensures.runs clean on)) c.execute.ensures.survives

pub returns-clause-open : goal.returns-clause-open
returns-clause-open g c clean on =
    opened _ _ (state g.S.Store c.args.tx.now.conn.now) (state g.S.Store c.execute.new.self.conn.now) c.execute.result (c.execute.ensures.runs clean on)
