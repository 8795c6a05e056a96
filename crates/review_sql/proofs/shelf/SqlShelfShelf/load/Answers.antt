use Rattle.review_sql_tables.proofs.Common.{rules, ◌≡◌, ◌∙◌, Ok, Result, OnOk, ap, not, subst, sym, IsTrue, clean_if_open, Held, state, HasCleanDisk, Serves}
use Rattle.review_sql_records.proofs.Common.{AgreesBeside, AreAsked, Tables, BlamesTables, KeepsTables, LeavesBy, Shows, cause_of, ShelfFault}
use Rattle.review_sql_lookups.specs.Tables.{tables_at}
use Rattle.review_sql.proofs.Loaded.{blames_loaded, keeps_loaded, knows_loaded, load_served, shows_loaded, tables_kept, was_asked}
use Rattle.review_sql.proofs.Shown.{desk_if_open, holds_read, holds_still, leaves, stops_read, clean_still, stops_still}
use Rattle.review_sql.specs.{Loading.WereSeen, Shelf.ShelfView, Shelf.answer_of, Shelf.tables_of, Shelf.stops_of}
use Rattle.review_sql.proofs.shelf.SqlShelfShelf.load.Goals as goal

pub invariant_of-self : goal.invariant_of-self
invariant_of-self g c =
    let last = c.load.new.conn in
    let clean : IsTrue (state g.S.Store last).is_open → HasCleanDisk (state g.S.Store last) = λ is_open. clean_if_open (g.S.Store.view last.store) (g.met.S.Store.shut_if_dirty last.store) is_open in
    let is : c.load.result ≡ Ok c.in-Ok.end = search rules in
    let serves = subst (Serves (WereSeen c.args.rows.now c.load.new.rows c.self.inside.counts c.load.new.counts) (state g.S.Store c.self.inside.conn) (state g.S.Store last)) is c.load.ensures.serves in (
      holds_read g.S.Store c.self.inside.conn last g.O.Origin.IS_OURS c.self.inside.numbers c.self.invariant.0 _ c.load.result c.load.ensures.mode clean c.load.ensures.serves,
      knows_loaded g.S.Store c.self.inside.conn last g.O.Origin.IS_OURS c.self.inside.numbers c.self.invariant.0 c.self.inside.counts c.load.new.counts c.self.invariant.1 c.args.rows.now c.load.new.rows c.in-Ok.end serves clean,
    )

pub invariant_of-self-in-Err : goal.invariant_of-self-in-Err
invariant_of-self-in-Err g c =
    let mid = c.load.new.conn in
    let last = c.fault_for.new.conn in
    let clean : IsTrue (state g.S.Store mid).is_open → HasCleanDisk (state g.S.Store mid) = λ is_open. clean_if_open (g.S.Store.view mid.store) (g.met.S.Store.shut_if_dirty mid.store) is_open in
    let holds = holds_still g.S.Store mid last c.fault_for.ensures.stays g.O.Origin.IS_OURS c.self.inside.numbers c.fault_for.ensures.mode
    (holds_read g.S.Store c.self.inside.conn mid g.O.Origin.IS_OURS c.self.inside.numbers c.self.invariant.0 _ c.load.result c.load.ensures.mode clean c.load.ensures.serves) in
    (holds, λ ours is_open. c.new.ensures (tables_at (state g.S.Store last).now.trees))

pub returns-in-Ok-clause-asked : goal.returns-in-Ok-clause-asked
returns-in-Ok-clause-asked g c =
    let before = c.args.rows.now in
    let after = c.load.new.rows in
    subst (λ (r : Result (Unit {0}) ShelfFault). OnOk r (AreAsked c.args.need.now.wants.items before after)) (sym c.answered.ensures)
    (subst (λ ws. OnOk (answer_of c.in-Ok.end) (AreAsked ws before after)) c.deref.ensures.value (was_asked c.deref.result.now before after c.in-Ok.end c.in-Ok.ensures.asked))

pub returns-in-Ok-clause-found : goal.returns-in-Ok-clause-found
returns-in-Ok-clause-found g c honest =
    let old = c.self.inside.conn in
    let last = c.load.new.conn in
    let same : old ≡ c.args.self.now.conn = ap (λ (k : ShelfView _). k.conn) c.self.view_is in
    let is : c.load.result ≡ Ok c.in-Ok.end = search rules in
    let serves = subst (Serves (WereSeen c.args.rows.now c.load.new.rows c.self.inside.counts c.load.new.counts) (state g.S.Store old) (state g.S.Store last)) is c.load.ensures.serves in
    let it = load_served g.S.Store old last g.O.Origin.IS_OURS c.self.inside.numbers c.self.invariant.0 c.self.inside.counts c.load.new.counts c.self.invariant.1 c.args.rows.now c.load.new.rows c.in-Ok.end serves honest.1 honest.0 in
    let before = c.args.rows.now in
    let after = c.load.new.rows in
    subst (λ (r : Result (Unit {0}) ShelfFault). OnOk r (Shows (tables_of g.S.Store c.args.self.now.conn) (λ t. AgreesBeside t before after))) (sym c.answered.ensures)
    (subst (λ (h : Held _). OnOk (answer_of c.in-Ok.end) (Shows (tables_of g.S.Store h) (λ t. AgreesBeside t before after))) same (shows_loaded g.S.Store old before after c.in-Ok.end it.0 it.1))

pub returns-in-Ok-clause-tables : goal.returns-in-Ok-clause-tables
returns-in-Ok-clause-tables g c honest =
    let old = c.self.inside.conn in
    let last = c.load.new.conn in
    let same : old ≡ c.args.self.now.conn = ap (λ (k : ShelfView _). k.conn) c.self.view_is in
    let is : c.load.result ≡ Ok c.in-Ok.end = search rules in
    let serves = subst (Serves (WereSeen c.args.rows.now c.load.new.rows c.self.inside.counts c.load.new.counts) (state g.S.Store old) (state g.S.Store last)) is c.load.ensures.serves in
    let kept = tables_kept g.S.Store old last g.O.Origin.IS_OURS c.self.inside.numbers c.self.invariant.0 c.self.inside.counts c.load.new.counts c.self.invariant.1 c.args.rows.now c.load.new.rows c.in-Ok.end serves honest.1 honest.0 in
    subst (λ (r : Result (Unit {0}) ShelfFault). KeepsTables r (tables_of g.S.Store c.args.self.now.conn) (tables_of g.S.Store last)) (sym c.answered.ensures)
    (subst (λ (h : Held _). KeepsTables (answer_of c.in-Ok.end) (tables_of g.S.Store h) (tables_of g.S.Store last)) same (keeps_loaded c.in-Ok.end _ _ kept))

pub returns-in-Ok-clause-damaged : goal.returns-in-Ok-clause-damaged
returns-in-Ok-clause-damaged g c honest =
    let old = c.self.inside.conn in
    let last = c.load.new.conn in
    let same : old ≡ c.args.self.now.conn = ap (λ (k : ShelfView _). k.conn) c.self.view_is in
    let is : c.load.result ≡ Ok c.in-Ok.end = search rules in
    let serves = subst (Serves (WereSeen c.args.rows.now c.load.new.rows c.self.inside.counts c.load.new.counts) (state g.S.Store old) (state g.S.Store last)) is c.load.ensures.serves in
    let it = load_served g.S.Store old last g.O.Origin.IS_OURS c.self.inside.numbers c.self.invariant.0 c.self.inside.counts c.load.new.counts c.self.invariant.1 c.args.rows.now c.load.new.rows c.in-Ok.end serves honest.1 honest.0 in
    subst (λ (r : Result (Unit {0}) ShelfFault). BlamesTables r (tables_of g.S.Store c.args.self.now.conn)) (sym c.answered.ensures)
    (subst (λ (h : Held _). BlamesTables (answer_of c.in-Ok.end) (tables_of g.S.Store h)) same (blames_loaded g.S.Store old c.args.rows.now c.load.new.rows c.in-Ok.end it.0 it.1))

pub returns-in-Ok-clause-stops : goal.returns-in-Ok-clause-stops
returns-in-Ok-clause-stops g c honest =
    let old = c.self.inside.conn in
    let last = c.load.new.conn in
    let same : old ≡ c.args.self.now.conn = ap (λ (k : ShelfView _). k.conn) c.self.view_is in
    let auto : IsTrue c.is_autocommit-settled.result = c.is_autocommit-settled.ensures.value ∙ ap not c.self.invariant.0.autocommit in
    subst (λ (h : Held _). (t : Tables) → stops_of g.S.Store g.O.Origin.IS_OURS last t → stops_of g.S.Store g.O.Origin.IS_OURS h t) same
    (stops_read g.S.Store old last g.O.Origin.IS_OURS c.self.inside.numbers c.self.invariant.0 _ c.load.result (λ was. c.is_autocommit-settled.ensures.settled auto was) (g.met.S.Store.stays old.store) c.load.ensures.serves honest.1 honest.0)

pub returns-in-Err-clause-stops : goal.returns-in-Err-clause-stops
returns-in-Err-clause-stops g c honest =
    let old = c.self.inside.conn in
    let mid = c.load.new.conn in
    let last = c.fault_for.new.conn in
    let same : old ≡ c.args.self.now.conn = ap (λ (k : ShelfView _). k.conn) c.self.view_is in
    let auto : IsTrue c.is_autocommit-settled.result = c.is_autocommit-settled.ensures.value ∙ ap not c.self.invariant.0.autocommit in
    let clean = clean_still g.S.Store mid last c.fault_for.ensures.stays honest.0 in
    subst (λ (h : Held _). (t : Tables) → stops_of g.S.Store g.O.Origin.IS_OURS last t → stops_of g.S.Store g.O.Origin.IS_OURS h t) same
    (λ t left. stops_read g.S.Store old mid g.O.Origin.IS_OURS c.self.inside.numbers c.self.invariant.0 _ c.load.result (λ was. c.is_autocommit-settled.ensures.settled auto was) (g.met.S.Store.stays old.store) c.load.ensures.serves honest.1 clean t
    (stops_still g.S.Store mid last c.fault_for.ensures.stays g.O.Origin.IS_OURS honest.0 t left))

pub returns-in-Err-clause-tables : goal.returns-in-Err-clause-tables
returns-in-Err-clause-tables g c honest =
    let old = c.self.inside.conn in
    let last = c.fault_for.new.conn in
    let same : old ≡ c.args.self.now.conn = ap (λ (k : ShelfView _). k.conn) c.self.view_is in
    let desk = desk_if_open g.S.Store old last g.O.Origin.IS_OURS c.self.inside.numbers c.self.invariant.0 honest.1 in
    subst (λ (h : Held _). LeavesBy (cause_of c.fault_for.result) (tables_of g.S.Store h) (tables_of g.S.Store last)) same
    (leaves g.S.Store old last (λ is_open. let k = c.fault_for.ensures.stays.kept is_open in let u = c.in-Err.ensures.serves.undone desk k.0 in (u.0, k.1 ∙ u.1)) c.fault_for.result c.fault_for.ensures.sound
    (λ is. c.fault_for.ensures.memory is honest.0))
