use Rattle.review_sql_tables.proofs.Common.{rules, ◌≡◌, ◌⊎◌, ap, not, subst, IsTrue, Ok, Err, ◌∙◌, clean_if_open, Held, state, HasCleanDisk}
use Rattle.review_sql_records.proofs.Common.{Tables, kept_row, Shows, IsCommitted, LeavesBy, cause_of}
use Rattle.review_sql_writes.specs.Commits.{AreSingle, with_request}
use Rattle.review_sql.proofs.Shown.{alone, holds_committed, holds_still, holds_undone, knows_committed, knows_still, knows_undone, stops_committed, committed_shown, clean_still, stops_still, leaves}
use Rattle.review_sql.proofs.Singles.{are_single}
use Rattle.review_sql.specs.Shelf.{ShelfView, Holds, tables_of, stops_of}
use Rattle.review_sql.proofs.shelf.SqlShelfShelf.commit.Goals as goal

pub invariant_of-self-in-Ok : goal.invariant_of-self-in-Ok
invariant_of-self-in-Ok g c =
    let old = c.self.inside.conn in
    let last = c.transact-written.new.conn in
    let more : with_request c.self.inside.numbers c.args.delta.least_epoch ≡ c.in-Some.more = search rules in
    let done : c.transact-written.result ≡ Ok (tt {0}) = search rules in
    let single : IsTrue g.O.Origin.IS_OURS → IsTrue (state g.S.Store old).is_open → AreSingle (state g.S.Store old).now.trees = λ ours was. are_single (state g.S.Store old).now (c.self.invariant.0.ready ours was).0 (c.schema-live.ensures.live was).0 in
    let clean : IsTrue (state g.S.Store last).is_open → HasCleanDisk (state g.S.Store last) = λ is_open. clean_if_open (g.S.Store.view last.store) (g.met.S.Store.shut_if_dirty last.store) is_open in (
      subst (Holds g.S.Store last g.O.Origin.IS_OURS) more
          (holds_committed g.S.Store old last g.O.Origin.IS_OURS c.self.inside.numbers c.self.invariant.0 c.args.delta c.args.kept c.transact-written.result c.transact-written.ensures.acts single done c.transact-written.ensures.mode clean),
      knows_committed g.S.Store old last g.O.Origin.IS_OURS c.self.inside.numbers c.self.invariant.0 c.args.delta c.args.kept c.transact-written.result c.transact-written.ensures.acts single done clean c.self.inside.counts c.note.new.self
          c.self.invariant.1 c.note.ensures,
    )

pub invariant_of-self-in-Err : goal.invariant_of-self-in-Err
invariant_of-self-in-Err g c =
    let old = c.self.inside.conn in
    let mid = c.transact-written.new.conn in
    let last = c.fault_for.new.conn in
    let failed : c.transact-written.result ≡ Err c.in-Err.error = search rules in
    let single : IsTrue g.O.Origin.IS_OURS → IsTrue (state g.S.Store old).is_open → AreSingle (state g.S.Store old).now.trees = λ ours was. are_single (state g.S.Store old).now (c.self.invariant.0.ready ours was).0 (c.schema-live.ensures.live was).0 in (
      holds_still g.S.Store mid last c.fault_for.ensures.stays g.O.Origin.IS_OURS c.self.inside.numbers c.fault_for.ensures.mode
          (holds_undone g.S.Store old mid g.O.Origin.IS_OURS c.self.inside.numbers c.self.invariant.0 c.args.delta c.args.kept c.transact-written.result c.transact-written.ensures.acts single failed c.transact-written.ensures.mode),
      knows_still g.S.Store mid last c.fault_for.ensures.stays g.O.Origin.IS_OURS c.self.inside.counts
          (knows_undone g.S.Store old mid g.O.Origin.IS_OURS c.self.inside.numbers c.self.invariant.0 c.args.delta c.args.kept c.transact-written.result c.transact-written.ensures.acts single failed c.self.inside.counts c.self.invariant.1),
    )

pub returns-in-Ok-clause-done : goal.returns-in-Ok-clause-done
returns-in-Ok-clause-done g c honest =
    let old = c.self.inside.conn in
    let last = c.transact-written.new.conn in
    let done : c.transact-written.result ≡ Ok (tt {0}) = search rules in
    subst (λ (h : Held _). Shows (tables_of g.S.Store h) (λ t. Shows (tables_of g.S.Store last) (IsCommitted t c.args.delta (kept_row c.args.kept)))) (ap (λ (k : ShelfView _). k.conn) c.self.view_is)
    (committed_shown g.S.Store old last g.O.Origin.IS_OURS c.self.inside.numbers c.self.invariant.0 c.args.delta c.args.kept c.transact-written.result c.transact-written.ensures.acts
    (λ ours was. are_single (state g.S.Store old).now (c.self.invariant.0.ready ours was).0 (c.schema-live.ensures.live was).0) done honest.1 honest.0)

pub returns-in-Ok-clause-stops : goal.returns-in-Ok-clause-stops
returns-in-Ok-clause-stops g c honest =
    let old = c.self.inside.conn in
    let last = c.transact-written.new.conn in
    subst (λ (h : Held _). (t : Tables) → stops_of g.S.Store g.O.Origin.IS_OURS last t → stops_of g.S.Store g.O.Origin.IS_OURS h t ⊎ Shows (tables_of g.S.Store h) (λ was. IsCommitted was c.args.delta (kept_row c.args.kept) t)) (ap (λ (k : ShelfView _). k.conn) c.self.view_is)
    (stops_committed g.S.Store old last g.O.Origin.IS_OURS c.self.inside.numbers c.self.invariant.0 c.args.delta c.args.kept c.transact-written.result c.transact-written.ensures.acts
    (λ ours was. are_single (state g.S.Store old).now (c.self.invariant.0.ready ours was).0 (c.schema-live.ensures.live was).0) honest.1 honest.0)

pub returns-in-Err-clause-stops : goal.returns-in-Err-clause-stops
returns-in-Err-clause-stops g c honest =
    let old = c.self.inside.conn in
    let mid = c.transact-written.new.conn in
    let last = c.fault_for.new.conn in
    let clean = clean_still g.S.Store mid last c.fault_for.ensures.stays honest.0 in
    subst (λ (h : Held _). (t : Tables) → stops_of g.S.Store g.O.Origin.IS_OURS last t → stops_of g.S.Store g.O.Origin.IS_OURS h t ⊎ Shows (tables_of g.S.Store h) (λ was. IsCommitted was c.args.delta (kept_row c.args.kept) t)) (ap (λ (k : ShelfView _). k.conn) c.self.view_is)
    (λ t left. stops_committed g.S.Store old mid g.O.Origin.IS_OURS c.self.inside.numbers c.self.invariant.0 c.args.delta c.args.kept c.transact-written.result c.transact-written.ensures.acts
    (λ ours was. are_single (state g.S.Store old).now (c.self.invariant.0.ready ours was).0 (c.schema-live.ensures.live was).0) honest.1 clean t (stops_still g.S.Store mid last c.fault_for.ensures.stays g.O.Origin.IS_OURS honest.0 t left))

pub returns-in-Err-clause-undone : goal.returns-in-Err-clause-undone
returns-in-Err-clause-undone g c honest =
    let old = c.self.inside.conn in
    let last = c.fault_for.new.conn in
    let same : old ≡ c.args.self.now.conn = ap (λ (k : ShelfView _). k.conn) c.self.view_is in
    subst (λ (h : Held _). LeavesBy (cause_of c.fault_for.result) (tables_of g.S.Store h) (tables_of g.S.Store last)) same
    (leaves g.S.Store old last (λ is_open. let k = c.fault_for.ensures.stays.kept is_open in let u = c.in-Err.ensures.acts.undone k.0 in (u.0, k.1 ∙ u.1)) c.fault_for.result c.fault_for.ensures.sound
    (λ is. c.fault_for.ensures.memory is honest.0))

pub returns-in-Ok-clause-alone : goal.returns-in-Ok-clause-alone
returns-in-Ok-clause-alone g c honest =
    let old = c.self.inside.conn in
    let last = c.transact-written.new.conn in
    let done : c.transact-written.result ≡ Ok (tt {0}) = search rules in
    let auto : IsTrue c.is_autocommit-settled.result = c.is_autocommit-settled.ensures.value ∙ ap not c.transact-written.ensures.mode in
    alone g.S.Store old last g.O.Origin.IS_OURS c.self.inside.numbers c.self.invariant.0 c.args.delta c.args.kept c.transact-written.result c.transact-written.ensures.acts
    (λ ours was. are_single (state g.S.Store old).now (c.self.invariant.0.ready ours was).0 (c.schema-live.ensures.live was).0) done honest.0
    (λ is_open. c.is_autocommit-settled.ensures.settled auto is_open) (g.met.S.Store.settled last.store)
