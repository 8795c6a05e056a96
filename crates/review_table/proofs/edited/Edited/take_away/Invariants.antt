use Rattle.std.proofs.Common.{◌≡◌, None, cond}
use Rattle.{std.specs.BTreeMap.is_at, std.specs.List.list_any, review_table.specs.Edited.edited_row}
use Rattle.review_table.proofs.edited.Edited.take_away.Given as goal

abbrev pub invariant-loop-key : goal.invariant-loop-key
invariant-loop-key g l = record {
  table : l.self.rows ≡ l.fn.self.rows;
  rows : (q : _) → cond (list_any (is_at (g.K.Ord.cmp q)) l.key-iterator.rest.items) None (edited_row g.K.Ord.cmp l.self q) ≡ cond (list_any (is_at (g.K.Ord.cmp q)) l.fn.keys.items) None (edited_row g.K.Ord.cmp l.fn.self q);
}
