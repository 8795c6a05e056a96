use Rattle.review_sql_tables.proofs.Common.{◌≡◌, ◌≤◌, ◌<◌, ℕ, List, get_or, map, IsTrue, false, state, HasCleanDisk}
use Rattle.review_sql_tables.specs.declared.texts.TheConstants.{ANY_ROW}
use Rattle.review_sql.specs.Shelf.{IsUnderstood, Stays}
use Rattle.review_sql.proofs.there.is_any_there.Given as goal

abbrev pub invariant-loop-at : goal.invariant-loop-at
invariant-loop-at g l = record {
  within : l.at ≤ 15;
  mode : l.conn.in_transaction ≡ false;
  stays : Stays (state g.S.Store l.fn.conn) (state g.S.Store l.conn);
  opened : 0 < l.at → HasCleanDisk (state g.S.Store l.conn) → IsTrue (state g.S.Store l.conn).is_open;
  none : HasCleanDisk (state g.S.Store l.conn) → (i : ℕ) (d : List ℕ) → i < l.at → IsUnderstood (state g.S.Store l.fn.conn).now.schema (get_or (map (λ t. t.now) ANY_ROW) i d) → ⊥;
}
