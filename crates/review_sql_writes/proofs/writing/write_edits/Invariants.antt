use Rattle.review_sql_tables.proofs.Common.{◌≡◌, ◌≤◌, length, drop, take, Ok, state, Inside}
use Rattle.review_sql_writes.specs.inner.Words.{SetsEdits}
use Rattle.review_sql_writes.proofs.writing.write_edits.Given as goal

abbrev pub invariant-loop-left : goal.invariant-loop-left
invariant-loop-left g l = record {
  within : l.left ≤ length l.edits;
  reference : l.tx.conn.ghost_name ≡ l.fn.tx.conn.ghost_name;
  ran : Inside {X = Unit {0}} (SetsEdits (take l.left l.edits) (drop l.left l.edits)) (state g.S.Store l.fn.tx.conn.now) (state g.S.Store l.tx.conn.now) (Ok (tt {0}));
}

abbrev pub decreases-loop-left : goal.decreases-loop-left
decreases-loop-left g l = l.left
