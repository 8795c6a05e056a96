use Rattle.std.proofs.Common.{rules, ◌≡◌, false}
use Rattle.{sqlite.specs.Held.state, review_sql_lookups.specs.Tables.tables_at}
use Rattle.review_sql.proofs.{Again.goes_on, Again.refused_again, Left.refused_left}
use Rattle.review_sql.proofs.Made.{empty_refused, is_opened, none_seen, not_ours}
use Rattle.review_sql.specs.{Shelf.Holds, declared.faults.DeskFault.TheVariants.NotOurs}
use Rattle.review_sql.proofs.shelf.SqlShelf.open.Goals as goal

pub invariant_of-result : goal.invariant_of-result
invariant_of-result g c =
    let last = c.see.new.conn in
    let holds : Holds g.S.Store last g.O.Origin.IS_OURS c.in-Ok.seen.numbers = search rules in
    (holds, λ ours is_open. c.new.ensures (tables_at (state g.S.Store last).now.trees))

pub returns-else-IS_OURS-clause-goes_on : goal.returns-else-IS_OURS-clause-goes_on
returns-else-IS_OURS-clause-goes_on g c = goes_on g.S.Store g.O.Origin.IS_OURS c.args.conn _ (is_opened g.S.Store c.args.conn c.see.new.conn c.in-Ok.seen c.see.ensures.stays)

pub returns-else-IS_OURS-clause-no_table : goal.returns-else-IS_OURS-clause-no_table
returns-else-IS_OURS-clause-no_table g c is_open none = none_seen g.S.Store c.args.conn c.see.new.conn c.in-Ok.seen (state g.S.Store c.args.conn) none (c.in-Ok.ensures.seen is_open)

pub returns-then-not-seen-clause-empty : goal.returns-then-not-seen-clause-empty
returns-then-not-seen-clause-empty g c is_open none = absurd (none_seen g.S.Store c.args.conn c.see.new.conn c.in-Ok.seen (state g.S.Store c.args.conn) none (c.in-Ok.ensures.seen is_open))

pub returns-in-Err-clause-ours : goal.returns-in-Err-clause-ours
returns-in-Err-clause-ours g c = λ is. absurd (c.in-Err.ensures.not_ours is)

pub returns-in-Err-clause-again : goal.returns-in-Err-clause-again
returns-in-Err-clause-again g c = refused_again g.S.Store g.O.Origin.IS_OURS c.args.conn c.see.new.conn c.in-Err.fault c.in-Err.ensures.stays c.in-Err.ensures.refused

pub returns-in-Err-clause-empty : goal.returns-in-Err-clause-empty
returns-in-Err-clause-empty g c is_open none = empty_refused (state g.S.Store c.args.conn) c.in-Err.fault none (c.in-Err.ensures.refused is_open)

pub returns-then-not-seen-clause-left : goal.returns-then-not-seen-clause-left
returns-then-not-seen-clause-left g c is_open left =
    let old = state g.S.Store c.args.conn in
    let last = state g.S.Store c.see.new.conn in
    let not : c.in-Ok.seen.is_ours ≡ false = search rules in
    refused_left old last NotOurs c.schema-live.ensures.live c.see.ensures.stays.kept is_open left (not_ours g.S.Store c.args.conn c.see.new.conn c.in-Ok.seen not (c.in-Ok.ensures.seen is_open))

pub returns-in-Err-clause-left : goal.returns-in-Err-clause-left
returns-in-Err-clause-left g c is_open left =
    refused_left (state g.S.Store c.args.conn) (state g.S.Store c.see.new.conn) c.in-Err.fault c.schema-live.ensures.live c.see.ensures.stays.kept is_open left (c.in-Err.ensures.refused is_open)
