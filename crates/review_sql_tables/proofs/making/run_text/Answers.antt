use Rattle.review_sql_tables.proofs.Common.{[], state, DropsBy, FillsBy, MakesBy}
use Rattle.review_sql_tables.proofs.{Made.makes_by, Sequences.one, TextsOfMoves.drops, TextsOfMoves.fills}
use Rattle.review_sql_tables.proofs.making.run_text.Goals as goal

pub returns-clause-makes : goal.returns-clause-makes
returns-clause-makes g c =
    let old = state g.S.Store c.args.tx.now.conn.now in
    let new = state g.S.Store c.execute.new.self.conn.now in
    let sql = c.args.sql.now in
    one sql [] old new c.execute.result (MakesBy sql) (makes_by sql old new) (λ clean on. c.execute.ensures.runs clean on) c.execute.ensures.survives

pub returns-clause-fills : goal.returns-clause-fills
returns-clause-fills g c =
    let old = state g.S.Store c.args.tx.now.conn.now in
    let new = state g.S.Store c.execute.new.self.conn.now in
    let sql = c.args.sql.now in
    one sql [] old new c.execute.result (FillsBy sql) (λ count h move text has empty. fills sql move old new has count text empty h) (λ clean on. c.execute.ensures.runs clean on) c.execute.ensures.survives

pub returns-clause-drops : goal.returns-clause-drops
returns-clause-drops g c =
    let old = state g.S.Store c.args.tx.now.conn.now in
    let new = state g.S.Store c.execute.new.self.conn.now in
    let sql = c.args.sql.now in
    one sql [] old new c.execute.result (DropsBy sql) (λ count h move text has. drops sql move old new has count text h) (λ clean on. c.execute.ensures.runs clean on) c.execute.ensures.survives
