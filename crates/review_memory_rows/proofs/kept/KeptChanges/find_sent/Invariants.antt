use Rattle.std.{proofs.Common.◌≡◌, proofs.Common.ℕ, proofs.Common.Some, proofs.Common.map, specs.Map.Iter.deref_pair}
use Rattle.{review_table.specs.Rows.row_in, review_table.specs.Rows.rows_of, review_machine_rows.proofs.Common.nat_cmp}
use Rattle.review_memory_rows.specs.Kept.{sent_cmp, IsSentAs}
use Rattle.review_memory_rows.proofs.kept.KeptChanges.find_sent.Given as goal

-- the keys of the patch sets that have the commit so are left
abbrev pub invariant-loop-key : goal.invariant-loop-key
invariant-loop-key l =
    (n p : ℕ) → IsSentAs l.merged (row_in nat_cmp (rows_of l.self.kept) n) l.base p → row_in sent_cmp (map deref_pair l.key-iterator.rest.items) (record { commit = l.base.commit; change = n; patch = p }) ≡ Some tt
