use Rattle.{std.proofs.Common.◌≡◌, std.proofs.Common.take, review_table.specs.Rows.rows_of}
use Rattle.review_memory.specs.Desk.{desk_of, AddsNames, AreIndexed, HasNoSpareRoom, KeepsNames}
use Rattle.review_memory.proofs.tables.MemoryTables.list_names.Given as goal

abbrev pub invariant-loop-key : goal.invariant-loop-key
invariant-loop-key l = record {
  same : desk_of l.self ≡ desk_of l.fn.self;
  kept : KeepsNames (rows_of l.fn.self.names) (rows_of l.self.names);
  only : AddsNames (rows_of l.fn.self.names) (take l.key-index l.names) (rows_of l.self.names);
  filled : HasNoSpareRoom l.fn.self → HasNoSpareRoom l.self;
  listed : AreIndexed (rows_of l.self.names) (take l.key-index l.names);
}
