use Rattle.review_sql_tables.proofs.Common.{◌≡◌, ◌≤◌, take, Ok, state, tables_1, schema_0, schema_of, Grows, Within}
use Rattle.review_sql_tables.specs.Ran.{Opens}
use Rattle.review_sql_tables.proofs.making.make_first_tables.Given as goal

abbrev pub invariant-loop-at : goal.invariant-loop-at
invariant-loop-at g l = record {
  within : l.at ≤ 12;
  reference : l.tx.conn.ghost_name ≡ l.fn.tx.conn.ghost_name;
  ran : Within {X = Unit {0}} (Grows schema_0 (schema_of (take l.at tables_1))) (state g.S.Store l.fn.tx.conn.now) (state g.S.Store l.tx.conn.now) (Ok (tt {0}));
  opens : Opens {X = Unit {0}} (state g.S.Store l.fn.tx.conn.now) (state g.S.Store l.tx.conn.now) (Ok (tt {0}));
}
