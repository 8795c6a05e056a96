use Rattle.review_sql_tables.proofs.Common.{rules, ◌≡◌, ◌∙◌, ap, not, subst, IsTrue, IfOk, clean_if_open, Held, state, HasCleanDisk}
use Rattle.review_sql_records.proofs.Common.{Identity, Tables, BlamesTables, IsRecalled, KeepsTables, Shows, LeavesBy, cause_of}
use Rattle.review_sql.proofs.Recalled.{blames_recalled, keeps_recalled, shows_recalled}
use Rattle.review_sql.proofs.Shown.{holds_read, holds_still, knows_read, knows_still, stops_read, desk_if_open, same_shown, clean_still, stops_still, leaves}
use Rattle.review_sql.specs.Shelf.{ShelfView, tables_of, stops_of}
use Rattle.review_sql.proofs.shelf.SqlShelfShelf.recall.Goals as goal

pub invariant_of-self : goal.invariant_of-self
invariant_of-self g c =
    let last = c.find_stored.new.conn in
    let clean : IsTrue (state g.S.Store last).is_open → HasCleanDisk (state g.S.Store last) = λ is_open. clean_if_open (g.S.Store.view last.store) (g.met.S.Store.shut_if_dirty last.store) is_open in (
      holds_read g.S.Store c.self.inside.conn last g.O.Origin.IS_OURS c.self.inside.numbers c.self.invariant.0 _ c.find_stored.result c.find_stored.ensures.mode clean c.find_stored.ensures.serves,
      knows_read g.S.Store c.self.inside.conn last g.O.Origin.IS_OURS c.self.inside.numbers c.self.invariant.0 _ c.find_stored.result c.self.inside.counts c.self.invariant.1 clean c.find_stored.ensures.serves,
    )

pub returns-in-Ok-clause-found : goal.returns-in-Ok-clause-found
returns-in-Ok-clause-found g c honest =
    let old = c.self.inside.conn in
    let last = c.find_stored.new.conn in
    let i : Identity = record { caller = c.args.caller; epoch = c.args.epoch; id = c.in_ok-copy.field-0 } in
    let same : old ≡ c.args.self.now.conn = ap (λ (k : ShelfView _). k.conn) c.self.view_is in
    let it = c.in-Ok.ensures.serves.found honest.0 (desk_if_open g.S.Store old last g.O.Origin.IS_OURS c.self.inside.numbers c.self.invariant.0 honest.1) in
    let id_is : c.in_ok-copy.field-0 ≡ c.args.id.now = search rules in
    subst (λ id. IfOk c.recalled.result (λ x. Shows (tables_of g.S.Store c.args.self.now.conn) (λ t. IsRecalled t (record { caller = c.args.caller; epoch = c.args.epoch; id = id }) x))) id_is
    (subst (λ (h : Held _). IfOk c.recalled.result (λ x. Shows (tables_of g.S.Store h) (λ t. IsRecalled t i x))) same
    (shows_recalled g.S.Store old c.self.inside.numbers i it.0 (c.self.invariant.0.ready honest.1 it.0).1 c.recalled.result c.in-Ok.looked it.3 c.recalled.ensures.told))

pub returns-in-Ok-clause-tables : goal.returns-in-Ok-clause-tables
returns-in-Ok-clause-tables g c honest =
    let old = c.self.inside.conn in
    let last = c.find_stored.new.conn in
    let same : old ≡ c.args.self.now.conn = ap (λ (k : ShelfView _). k.conn) c.self.view_is in
    let it = c.in-Ok.ensures.serves.found honest.0 (desk_if_open g.S.Store old last g.O.Origin.IS_OURS c.self.inside.numbers c.self.invariant.0 honest.1) in
    subst (λ (h : Held _). KeepsTables c.recalled.result (tables_of g.S.Store h) (tables_of g.S.Store last)) same
    (keeps_recalled _ c.recalled.result _ _ c.recalled.ensures.damaged (same_shown g.S.Store old last it.0 it.1 it.2))

pub returns-in-Ok-clause-damaged : goal.returns-in-Ok-clause-damaged
returns-in-Ok-clause-damaged g c honest =
    let old = c.self.inside.conn in
    let last = c.find_stored.new.conn in
    let i : Identity = record { caller = c.args.caller; epoch = c.args.epoch; id = c.in_ok-copy.field-0 } in
    let same : old ≡ c.args.self.now.conn = ap (λ (k : ShelfView _). k.conn) c.self.view_is in
    let it = c.in-Ok.ensures.serves.found honest.0 (desk_if_open g.S.Store old last g.O.Origin.IS_OURS c.self.inside.numbers c.self.invariant.0 honest.1) in
    subst (λ (h : Held _). BlamesTables c.recalled.result (tables_of g.S.Store h)) same
    (blames_recalled g.S.Store old c.self.inside.numbers i it.0 (c.self.invariant.0.ready honest.1 it.0).1 c.recalled.result c.in-Ok.looked it.3 c.recalled.ensures.damaged)

pub returns-in-Ok-clause-stops : goal.returns-in-Ok-clause-stops
returns-in-Ok-clause-stops g c honest =
    let old = c.self.inside.conn in
    let last = c.find_stored.new.conn in
    let same : old ≡ c.args.self.now.conn = ap (λ (k : ShelfView _). k.conn) c.self.view_is in
    let auto : IsTrue c.is_autocommit-settled.result = c.is_autocommit-settled.ensures.value ∙ ap not c.self.invariant.0.autocommit in
    subst (λ (h : Held _). (t : Tables) → stops_of g.S.Store g.O.Origin.IS_OURS last t → stops_of g.S.Store g.O.Origin.IS_OURS h t) same
    (stops_read g.S.Store old last g.O.Origin.IS_OURS c.self.inside.numbers c.self.invariant.0 _ c.find_stored.result (λ was. c.is_autocommit-settled.ensures.settled auto was) (g.met.S.Store.stays old.store) c.find_stored.ensures.serves honest.1 honest.0)

pub returns-in-Err-clause-stops : goal.returns-in-Err-clause-stops
returns-in-Err-clause-stops g c honest =
    let old = c.self.inside.conn in
    let mid = c.find_stored.new.conn in
    let last = c.fault_for.new.conn in
    let same : old ≡ c.args.self.now.conn = ap (λ (k : ShelfView _). k.conn) c.self.view_is in
    let auto : IsTrue c.is_autocommit-settled.result = c.is_autocommit-settled.ensures.value ∙ ap not c.self.invariant.0.autocommit in
    let clean = clean_still g.S.Store mid last c.fault_for.ensures.stays honest.0 in
    subst (λ (h : Held _). (t : Tables) → stops_of g.S.Store g.O.Origin.IS_OURS last t → stops_of g.S.Store g.O.Origin.IS_OURS h t) same
    (λ t left. stops_read g.S.Store old mid g.O.Origin.IS_OURS c.self.inside.numbers c.self.invariant.0 _ c.find_stored.result (λ was. c.is_autocommit-settled.ensures.settled auto was) (g.met.S.Store.stays old.store) c.find_stored.ensures.serves honest.1 clean t
    (stops_still g.S.Store mid last c.fault_for.ensures.stays g.O.Origin.IS_OURS honest.0 t left))

pub returns-in-Err-clause-tables : goal.returns-in-Err-clause-tables
returns-in-Err-clause-tables g c honest =
    let old = c.self.inside.conn in
    let last = c.fault_for.new.conn in
    let same : old ≡ c.args.self.now.conn = ap (λ (k : ShelfView _). k.conn) c.self.view_is in
    let desk = desk_if_open g.S.Store old last g.O.Origin.IS_OURS c.self.inside.numbers c.self.invariant.0 honest.1 in
    subst (λ (h : Held _). LeavesBy (cause_of c.fault_for.result) (tables_of g.S.Store h) (tables_of g.S.Store last)) same
    (leaves g.S.Store old last (λ is_open. let k = c.fault_for.ensures.stays.kept is_open in let u = c.in-Err.ensures.serves.undone desk k.0 in (u.0, k.1 ∙ u.1)) c.fault_for.result c.fault_for.ensures.sound
    (λ is. c.fault_for.ensures.memory is honest.0))

pub invariant_of-self-in-Err-1 : goal.invariant_of-self-in-Err-1
invariant_of-self-in-Err-1 g c =
    let mid = c.find_stored.new.conn in
    let last = c.fault_for.new.conn in
    let clean : IsTrue (state g.S.Store mid).is_open → HasCleanDisk (state g.S.Store mid) = λ is_open. clean_if_open (g.S.Store.view mid.store) (g.met.S.Store.shut_if_dirty mid.store) is_open in (
      holds_still g.S.Store mid last c.fault_for.ensures.stays g.O.Origin.IS_OURS c.self.inside.numbers c.fault_for.ensures.mode
          (holds_read g.S.Store c.self.inside.conn mid g.O.Origin.IS_OURS c.self.inside.numbers c.self.invariant.0 _ c.find_stored.result c.find_stored.ensures.mode clean c.find_stored.ensures.serves),
      knows_still g.S.Store mid last c.fault_for.ensures.stays g.O.Origin.IS_OURS c.self.inside.counts
          (knows_read g.S.Store c.self.inside.conn mid g.O.Origin.IS_OURS c.self.inside.numbers c.self.invariant.0 _ c.find_stored.result c.self.inside.counts c.self.invariant.1 clean c.find_stored.ensures.serves),
    )
