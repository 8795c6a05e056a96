use Rattle.std.proofs.Common.{◌≡◌, drop}
use Rattle.{review_table.specs.Rows.rows_of, review_table.specs.Rows.HasEmptyOnly, review_memory.specs.Desk.is_removed}
use Rattle.review_memory.proofs.tables.release_removed.Given as goal

abbrev pub invariant-loop-change : goal.invariant-loop-change
invariant-loop-change g l = record {
  same : rows_of l.table ≡ rows_of l.fn.table;
  left : HasEmptyOnly g.K.Ord.cmp (is_removed g.K.Ord.cmp l.changes) l.fn.table → HasEmptyOnly g.K.Ord.cmp (is_removed g.K.Ord.cmp (drop l.change-index l.changes)) l.table;
}
