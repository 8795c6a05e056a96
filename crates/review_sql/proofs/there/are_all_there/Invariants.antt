use Rattle.review_sql_tables.proofs.Common.{◌≡◌, ◌≤◌, ◌<◌, ℕ, List, get_or, IsTrue, false, state, HasCleanDisk}
use Rattle.review_sql.specs.Shelf.{IsUnderstood, Stays, rows_read}
use Rattle.review_sql.proofs.there.are_all_there.Given as goal

abbrev pub invariant-loop-at : goal.invariant-loop-at
invariant-loop-at g l = record {
  within : l.at ≤ l.count;
  mode : l.conn.in_transaction ≡ false;
  stays : Stays (state g.S.Store l.fn.conn) (state g.S.Store l.conn);
  opened : HasCleanDisk (state g.S.Store l.conn) → IsTrue (state g.S.Store l.conn).is_open;
  all : HasCleanDisk (state g.S.Store l.conn) → IsTrue (state g.S.Store l.conn).is_open → (i : ℕ) (d : List ℕ) → i < l.at → IsUnderstood (state g.S.Store l.fn.conn).now.schema (get_or (rows_read l.fn.version) i d);
}
