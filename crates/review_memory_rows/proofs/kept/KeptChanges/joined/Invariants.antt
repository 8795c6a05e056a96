use Rattle.{std.proofs.Common.map, std.specs.Map.Iter.deref_pair, review_table.specs.Rows.rows_of}
use Rattle.review_memory_rows.{proofs.Joined.AreJoinedSoFar, specs.Kept.row_of}
use Rattle.review_memory_rows.proofs.kept.KeptChanges.joined.Given as goal

abbrev pub invariant-loop-key : goal.invariant-loop-key
invariant-loop-key l = AreJoinedSoFar (row_of (rows_of l.self.kept)) l.branch (map deref_pair l.key-iterator.rest.items) l.joined.items
