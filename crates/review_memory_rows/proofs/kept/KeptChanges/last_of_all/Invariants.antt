use Rattle.std.{proofs.Common.map, specs.Map.Iter.deref_pair}
use Rattle.{review_table.specs.Rows.rows_of, review_memory_rows.proofs.Joined.IsLastSoFar}
use Rattle.review_memory_rows.proofs.kept.KeptChanges.last_of_all.Given as goal

abbrev pub invariant-loop-key : goal.invariant-loop-key
invariant-loop-key l = IsLastSoFar (rows_of l.self.kept) l.branch (map deref_pair l.key-iterator.rest.items) l.last
