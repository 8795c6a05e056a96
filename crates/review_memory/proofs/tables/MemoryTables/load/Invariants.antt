use Rattle.std.proofs.Common.{take}
use Rattle.review_machine_rows.specs.Known.{AgreesBeside, AreAsked}
use Rattle.review_memory.specs.Desk.{desk_of, tables_of}
use Rattle.review_memory.proofs.tables.MemoryTables.load.Given as goal

abbrev pub invariant-loop-want : goal.invariant-loop-want
invariant-loop-want l = record {
  asked : AreAsked (take l.want-index l.need.wants.items) l.fn.rows l.rows;
  found : AgreesBeside (tables_of (desk_of l.self)) l.fn.rows l.rows;
}
