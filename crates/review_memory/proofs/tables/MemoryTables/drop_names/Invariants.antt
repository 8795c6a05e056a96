use Rattle.std.{proofs.Common.◌≡◌, proofs.Common.take, proofs.Common.Some, specs.List.All, specs.Ordering.nat_cmp}
use Rattle.review_table.specs.Rows.{row_in, rows_of}
use Rattle.review_memory.specs.Desk.{desk_of, name_cmp, HasNoSpareRoom, IsIndexed, KeepsNames}
use Rattle.review_memory.proofs.tables.MemoryTables.drop_names.Given as goal

abbrev pub invariant-loop-key : goal.invariant-loop-key
invariant-loop-key l = record {
  same : desk_of l.self ≡ desk_of l.fn.self;
  indexed : IsIndexed (rows_of l.self.accounts) (rows_of l.self.names);
  no_more : KeepsNames (rows_of l.self.names) (rows_of l.fn.self.names);
  filled : HasNoSpareRoom l.fn.self → HasNoSpareRoom l.self;
  dropped : All (λ k. row_in name_cmp (rows_of l.self.names) k ≡ Some tt → row_in nat_cmp (rows_of l.self.accounts) k.account ≡ Some k.name) (take l.key-index l.names);
}
