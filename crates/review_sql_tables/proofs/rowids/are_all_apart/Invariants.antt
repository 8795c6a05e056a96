use Rattle.review_sql_tables.proofs.Common.{◌≡◌, ◌≤◌, take, Ok, Decides, state, desk_tables, Looks}
use Rattle.review_sql_tables.proofs.Ids.{Apart}
use Rattle.review_sql_tables.proofs.rowids.are_all_apart.Given as goal

abbrev pub invariant-loop-at : goal.invariant-loop-at
invariant-loop-at g l = record {
  within : l.at ≤ 13;
  reference : l.tx.conn.ghost_name ≡ l.fn.tx.conn.ghost_name;
  looks : Looks (λ db is. Decides is (Apart db (take l.at desk_tables))) (state g.S.Store l.fn.tx.conn.now) (state g.S.Store l.tx.conn.now) (Ok l.are);
}
