use Rattle.review_sql_tables.proofs.Common.{◌≡◌, ◌≤◌, length, drop, Ok, state, Inside, SetsRows}
use Rattle.review_sql_tables.proofs.changes.change_all.Given as goal

abbrev pub invariant-loop-left : goal.invariant-loop-left
invariant-loop-left g l = record {
  within : l.left ≤ length l.changes;
  reference : l.tx.conn.ghost_name ≡ l.fn.tx.conn.ghost_name;
  ran : Inside {X = Unit {0}} (SetsRows g.T.Record.table.search (drop l.left l.changes)) (state g.S.Store l.fn.tx.conn.now) (state g.S.Store l.tx.conn.now) (Ok (tt {0}));
}

abbrev pub decreases-loop-left : goal.decreases-loop-left
decreases-loop-left g l = l.left
