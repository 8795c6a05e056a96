use Rattle.std.proofs.Common.{◌≡◌, Ok}
use Rattle.{sqlite.specs.Held.state, review_sql_tables.specs.Ran.Looks, review_sql_change_lookups.proofs.Joined.SoFar}
use Rattle.review_sql_change_lookups.proofs.joins.find_joins.Given as goal

abbrev pub invariant-loop-before : goal.invariant-loop-before
invariant-loop-before g l = record {
  reference : l.tx.conn.ghost_name ≡ l.fn.tx.conn.ghost_name;
  project : l.key.project ≡ l.fn.branch.project;
  branch : l.key.branch ≡ l.fn.branch.branch;
  looks : Looks (SoFar l.fn.branch l.last l.before l.joined.items) (state g.S.Store l.fn.tx.conn.now) (state g.S.Store l.tx.conn.now) (Ok (tt {0}));
}
