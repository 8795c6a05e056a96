use Rattle.std.proofs.Common.{refl, subst, sym}
use Rattle.review_machine_rows.specs.Known.{Holder, IsFound, IsLastJoined, Joins, Number}
use Rattle.review_machine_change_rows.specs.Tables.{fault_of}
use Rattle.review_memory.proofs.Changed.{change_unread, joined_here, last_joined_here, sent_here}
use Rattle.review_memory.proofs.First.{bases_unread, passed_on}
use Rattle.review_memory.specs.Desk.{desk_of, row_of, tables_of}
use Rattle.review_memory.proofs.tables.MemoryTables.look_up.Goals as goal

pub returns-in_err-bases_of-in-Bases-clause-fault : goal.returns-in_err-bases_of-in-Bases-clause-fault
returns-in_err-bases_of-in-Bases-clause-fault c =
    let desk = desk_of c.args.self.now in
    let fault = c.in_err-bases_of-in-Bases.field-0.0 in
    let passed = c.from_residual-in_err-bases_of-in-Bases in
    passed_on (tables_of desk) fault_of fault passed.result passed.ensures (bases_unread desk c.in-Bases.branch fault c.in_err-bases_of-in-Bases.ensures.gap)

pub returns-in_err-load-in-Change-clause-fault : goal.returns-in_err-load-in-Change-clause-fault
returns-in_err-load-in-Change-clause-fault c =
    let desk = desk_of c.args.self.now in
    let fault = c.in_err-load-in-Change.field-0.0 in
    let passed = c.from_residual-in_err-load-in-Change in
    passed_on (tables_of desk) fault_of fault passed.result passed.ensures (change_unread desk c.in-Change.number fault c.in_err-load-in-Change.ensures.fault)

pub returns-in_ok-sender-in-ChangeOf-clause-found : goal.returns-in_ok-sender-in-ChangeOf-clause-found
returns-in_ok-sender-in-ChangeOf-clause-found c =
    let desk = desk_of c.args.self.now in
    let sender = c.in_ok-sender-in-ChangeOf.field-0 in
    subst (λ w. IsFound (tables_of desk) w (Holder sender)) (sym c.in-ChangeOf.is) (sender, refl, sent_here desk c.in-ChangeOf.base sender c.in_ok-sender-in-ChangeOf.ensures)

pub returns-in_ok-last_joined-in-LastJoined-clause-found : goal.returns-in_ok-last_joined-in-LastJoined-clause-found
returns-in_ok-last_joined-in-LastJoined-clause-found c =
    let desk = desk_of c.args.self.now in
    let key = c.in-LastJoined.branch in
    let last = c.from-in-LastJoined.result in
    subst (λ w. IsFound (tables_of desk) w (Number last)) (sym c.in-LastJoined.is)
    (last, refl, subst (IsLastJoined (row_of desk) key) (sym c.from-in-LastJoined.ensures) (last_joined_here desk key c.in_ok-last_joined-in-LastJoined.field-0 c.in_ok-last_joined-in-LastJoined.ensures))

pub returns-in_ok-joined-in-Joined-clause-found : goal.returns-in_ok-joined-in-Joined-clause-found
returns-in_ok-joined-in-Joined-clause-found c =
    let desk = desk_of c.args.self.now in
    let joined = c.in_ok-joined-in-Joined.field-0 in
    subst (λ w. IsFound (tables_of desk) w (Joins joined)) (sym c.in-Joined.is) (joined, refl, joined_here desk c.in-Joined.branch joined c.in_ok-joined-in-Joined.ensures)
