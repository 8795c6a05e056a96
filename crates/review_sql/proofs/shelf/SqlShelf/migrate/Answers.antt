use Rattle.std.proofs.Common.{rules, ◌≡◌, ◌∙◌, ap, not, subst, IsTrue}
use Rattle.{sqlite.proofs.StateLemmas.clean_if_open, sqlite.specs.Held.state, review_sql_lookups.specs.Tables.tables_at}
use Rattle.review_sql.proofs.{Again.unfit_closed, Left.unfit_left_behind, Raised.holds_brought, Raised.migrated}
use Rattle.review_sql.specs.Migrated.{IsBrought, IsNotMigrated}
use Rattle.review_sql.proofs.shelf.SqlShelf.migrate.Goals as goal

pub invariant_of-result : goal.invariant_of-result
invariant_of-result g c =
    let last = c.bring.new.conn in
    let same : c.IS_OURS.result ≡ g.O.Origin.IS_OURS = search rules in
    let brought = subst (λ b. IsBrought g.S.Store b c.args.conn last c.in-Ok.numbers) same c.in-Ok.ensures.brought in
    let holds = holds_brought g.S.Store g.O.Origin.IS_OURS c.args.conn last _ c.bring.ensures.mode (λ is_open. clean_if_open (g.S.Store.view last.store) (g.met.S.Store.shut_if_dirty last.store) is_open) brought in
    (holds, λ ours is_open. c.new.ensures (tables_at (state g.S.Store last).now.trees))

pub returns-in-Ok-clause-migrated : goal.returns-in-Ok-clause-migrated
returns-in-Ok-clause-migrated g c =
    let last = c.bring.new.conn in
    let same : c.IS_OURS.result ≡ g.O.Origin.IS_OURS = search rules in
    let brought = subst (λ b. IsBrought g.S.Store b c.args.conn last c.in-Ok.numbers) same c.in-Ok.ensures.brought in
    let auto : IsTrue c.is_autocommit-settled.result = c.is_autocommit-settled.ensures.value ∙ ap not c.bring.ensures.mode in
    migrated g.S.Store g.O.Origin.IS_OURS c.args.conn last _ (λ is_open. c.is_autocommit-settled.ensures.settled auto is_open) (g.met.S.Store.settled last.store) brought

pub returns-in-Err-clause-again : goal.returns-in-Err-clause-again
returns-in-Err-clause-again g c =
    let same : c.IS_OURS.result ≡ g.O.Origin.IS_OURS = search rules in
    let left = subst (λ b. IsNotMigrated b c.in-Err.fault (state g.S.Store c.args.conn) (state g.S.Store c.bring.new.conn)) same c.in-Err.ensures.refused in
    unfit_closed g.S.Store g.O.Origin.IS_OURS c.args.conn c.bring.new.conn c.in-Err.fault left c.in-Err.ensures.unfit

pub returns-in-Err-clause-left : goal.returns-in-Err-clause-left
returns-in-Err-clause-left g c is_open left =
    unfit_left_behind (state g.S.Store c.args.conn) (state g.S.Store c.bring.new.conn) c.in-Err.fault c.schema-live.ensures.live c.in-Err.ensures.refused.undone is_open left (c.in-Err.ensures.unfit is_open)
