use Rattle.std.proofs.Common.{◌≡◌, take, Ok}
use Rattle.{review_machine_rows.specs.Known.AreAsked, review_sql.proofs.Finding.Have, review_sql.specs.Loading.LooksIf}
use Rattle.review_sql.proofs.loading.find_in_turn.Given as goal

abbrev pub invariant-loop-want : goal.invariant-loop-want
invariant-loop-want g l = record {
  reference : l.tx.conn.ghost_name ≡ l.fn.tx.conn.ghost_name;
  asked : AreAsked (take l.want-index l.wants) l.fn.rows l.rows;
  looks : LooksIf g.S.Store l.is_asked (Have l.fn.rows l.rows l.fn.counts l.counts) l.fn.tx.conn.now l.tx.conn.now (Ok (tt {0}));
}
