use Rattle.std.proofs.Common.{◌≡◌, Ok}
use Rattle.{sqlite.specs.Held.state, review_sql_tables.specs.Ran.Looks, review_sql_change_lookups.proofs.Sending.Seen}
use Rattle.review_sql_change_lookups.proofs.senders.find_sent.Given as goal

abbrev pub invariant-loop-one : goal.invariant-loop-one
invariant-loop-one g l = record {
  reference : l.tx.conn.ghost_name ≡ l.fn.tx.conn.ghost_name;
  looks : Looks (Seen l.fn.merged l.fn.base l.one-items l.one-index) (state g.S.Store l.fn.tx.conn.now) (state g.S.Store l.tx.conn.now) (Ok (tt {0}));
}
