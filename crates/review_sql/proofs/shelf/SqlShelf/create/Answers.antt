use Rattle.std.proofs.Common.{rules, ◌≡◌, ◌∙◌, true, ap, not, IsTrue, sym, subst}
use Rattle.{sqlite.proofs.StateLemmas.clean_if_open, sqlite.specs.Held.state, review_sql_lookups.specs.Tables.tables_at}
use Rattle.review_sql.proofs.Made.{holds_made, is_created, unmade}
use Rattle.review_sql.specs.Shelf.{IsCreated, Holds}
use Rattle.review_sql.proofs.shelf.SqlShelf.create.Goals as goal

pub returns-in-Ok-true-clause-not_empty : goal.returns-in-Ok-true-clause-not_empty
returns-in-Ok-true-clause-not_empty g c same is_open =
    let last = c.is_any_there.new.conn in
    c.in-Ok-true.ensures.is (clean_if_open (g.S.Store.view last.store) (g.met.S.Store.shut_if_dirty last.store) is_open) c.in-Ok-true.field-0-test is_open

pub invariant_of-result : goal.invariant_of-result
invariant_of-result g c =
    let last = c.make_desk.new.conn in
    let blank = rw c.schema.ensures.value at c.is_blank-is_blank.ensures in
    let may : c.may_be_made.result ≡ true = search rules in
    let holds = subst (Holds g.S.Store last g.O.Origin.IS_OURS) (sym c.first.ensures)
    (holds_made g.S.Store c.args.conn c.is_any_there.new.conn last g.O.Origin.IS_OURS (λ ours. blank.0 (c.may_be_made.ensures.made may ours)) _ c.in-Ok.ensures.acts c.make_desk.ensures.mode (λ is_open. clean_if_open (g.S.Store.view last.store) (g.met.S.Store.shut_if_dirty last.store) is_open)) in
    (holds, λ ours is_open. c.new.ensures (tables_at (state g.S.Store last).now.trees))

pub returns-in-Ok-clause-created : goal.returns-in-Ok-clause-created
returns-in-Ok-clause-created g c =
    let last = c.make_desk.new.conn in
    let blank = rw c.schema.ensures.value at c.is_blank-is_blank.ensures in
    let may : c.may_be_made.result ≡ true = search rules in
    let auto : IsTrue c.is_autocommit-settled.result = c.is_autocommit-settled.ensures.value ∙ ap not c.make_desk.ensures.mode in
    subst (λ n. IsCreated g.S.Store g.O.Origin.IS_OURS c.args.conn (record { conn = last; numbers = n; faults = 0 })) (sym c.first.ensures)
    (is_created g.S.Store c.args.conn c.is_any_there.new.conn last g.O.Origin.IS_OURS (λ ours. blank.0 (c.may_be_made.ensures.made may ours)) _ c.in-Ok.ensures.acts c.in-Ok-false.ensures.stays (λ clean any. c.in-Ok-false.ensures.none clean c.in-Ok-false.field-0-test any)
    (λ is_open. c.is_autocommit-settled.ensures.settled auto is_open) (g.met.S.Store.settled last.store))

pub returns-in-Err-make_desk-clause-refused : goal.returns-in-Err-make_desk-clause-refused
returns-in-Err-make_desk-clause-refused g c =
    unmade (state g.S.Store c.args.conn) (state g.S.Store c.is_any_there.new.conn) (state g.S.Store c.make_desk.new.conn) c.in-Err-make_desk.error c.in-Ok-false.ensures.stays c.in-Err-make_desk.ensures.acts

pub returns-then-not-may_be_made-clause-beside : goal.returns-then-not-may_be_made-clause-beside
returns-then-not-may_be_made-clause-beside g c same is_open any =
    let last = c.is_any_there.new.conn in
    c.in-Ok-false.ensures.none (clean_if_open (g.S.Store.view last.store) (g.met.S.Store.shut_if_dirty last.store) is_open) c.in-Ok-false.field-0-test any
