use Rattle.std.proofs.Common.{◌≡◌, ℕ, Some, map}
use Rattle.review_machine_rows.proofs.Common.{deref_pair, member_cmp, nat_cmp, option_or, row_in, rows_of}
use Rattle.review_machine_rows.specs.declared.rows.MemberKey.{MemberKey}
use Rattle.review_memory.proofs.tables.MemoryTables.members_of.Given as goal

abbrev pub invariant-loop-key : goal.invariant-loop-key
invariant-loop-key l = record {
  left : (n : ℕ) → option_or (row_in member_cmp (map deref_pair l.key-iterator.rest.items) (record { group = l.group; account = n })) (row_in nat_cmp (rows_of l.members) n)
      ≡ row_in member_cmp (rows_of l.self.members) (record { group = l.group; account = n });
  own : (q : MemberKey) → row_in member_cmp (map deref_pair l.key-iterator.rest.items) q ≡ Some tt → q.group ≡ l.group;
}
