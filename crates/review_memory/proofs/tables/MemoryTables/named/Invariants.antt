use Rattle.std.proofs.Common.{◌≡◌, ℕ, Some, map}
use Rattle.std.specs.{Map.Iter.deref_pair, Ordering.nat_cmp}
use Rattle.{review_table.specs.Rows.row_in, review_table.specs.Rows.rows_of, review_memory.specs.Desk.name_cmp}
use Rattle.review_memory.proofs.tables.MemoryTables.named.Given as goal

abbrev pub invariant-loop-key : goal.invariant-loop-key
invariant-loop-key l = (n : ℕ) → row_in nat_cmp (rows_of l.self.accounts) n ≡ Some l.name → row_in name_cmp (map deref_pair l.key-iterator.rest.items) (record { name = l.name; account = n }) ≡ Some tt
