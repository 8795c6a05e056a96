use Rattle.{sqlite.specs.Held.state, review_sql.proofs.Peeking.refused_third}
use Rattle.review_sql.proofs.opening.see.Goals as goal

pub returns-in-Third-clause-refused : goal.returns-in-Third-clause-refused
returns-in-Third-clause-refused g c is_open = refused_third (state g.S.Store c.args.conn.now) (state g.S.Store c.ask.new.conn) c.see_desk.result (c.ask.ensures.stays.kept (c.see_desk.ensures.stays.kept is_open).0).1 (c.see_desk.ensures.lacking is_open)
