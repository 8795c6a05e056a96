use Rattle.{std.proofs.Common.sym, std.proofs.Common.subst, review_table.specs.Rows.rows_of}
use Rattle.review_memory.proofs.{Applied.room_stored, Applied.spare_stored, Lower.on_ok}
use Rattle.review_memory.specs.Desk.{AreIndexed, HasRoom, HasRoomOnlyFor}
use Rattle.review_memory.specs.declared.tables.MemoryTables.{MemoryTables}
use Rattle.review_memory.proofs.tables.MemoryTables.begin.Goals as goal

pub returns-clause-listed : goal.returns-clause-listed
returns-clause-listed c =
    on_ok c.store.result (AreIndexed (rows_of c.store.new.self.names) c.args.given.now)
    (subst (λ (t : MemoryTables). AreIndexed (rows_of t.names) c.args.given.now) (sym c.store.ensures.rest) c.in_ok-reserve.ensures.listed)

pub returns-clause-room : goal.returns-clause-room
returns-clause-room c =
    let stored = c.store.new.self in
    on_ok c.store.result (HasRoom stored c.args.changes.now)
    (subst (λ t. HasRoom t c.args.changes.now) (sym c.store.ensures.rest) (room_stored c.reserve.new.self stored.branches stored.answers c.args.changes.now c.in_ok-reserve.ensures.room))

pub returns-clause-spare : goal.returns-clause-spare
returns-clause-spare c = λ full.
    let stored = c.store.new.self in
    let only = c.reserve.ensures.spare full in
    subst (HasRoomOnlyFor c.args.changes.now) (sym c.store.ensures.rest) (spare_stored c.reserve.new.self stored.branches stored.answers c.args.changes.now (c.store.ensures.filled only.answers) only)
