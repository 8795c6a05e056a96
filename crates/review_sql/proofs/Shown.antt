-- What a connection shows as a shelf.
use Rattle.review_words.specs.History.{is_closed}
use Rattle.review_sql_tables.proofs.Common.{◌≡◌, ◌≢◌, ◌∙◌, ◌⊎◌, inl, inr, List, [], ◌∷◌, Bool, Option, Some, None, true, false, Ok, Err, Result, OnOk, IsTrue, refl, sym, ap, subst, arith, cond, cases_Bool, Database, Held, state, HasCleanDisk, Error, Trees, Ghosts, IsReady, IsDeskIfOpen, Serves, Transacts}
use Rattle.review_machine_rows.specs.{Rows.OddAnswer, Shelf.StaysOrShuts, View.stored_answer}
use Rattle.review_machine_rows.specs.declared.rows.Kept.{Kept as Request}
use Rattle.review_machine_rows.specs.declared.shelf.ShelfFault.TheVariants.{Memory, Store}
use Rattle.review_sql_records.proofs.Common.{Entry, Identity, is_same, reading_of, AnswerRow, Tables, kept_row, Blames, LeavesBy, Shows, IsCommitted, IsDamaged, cause_of, kept_answer, Delta, ShelfFault, Damaged}
use Rattle.review_sql_lookups.specs.{Loads.AreBounded, Tables.tables_at, declared.counts.Counts.Counts}
use Rattle.review_sql_writes.specs.Commits.{AreSingle, Commits, IsDesk, with_request}
use Rattle.review_sql_writes.specs.declared.numbers.Numbers.{Numbers}
use Rattle.review_sql.specs.Shelf.{AreOurs, Holds, KnowsCounts, ShowsLeft, Stays, tables_of, stops_of}

-- a stored request that is odd is one of no history
pub not_odd : (h : List Entry) (i : Identity) → stored_answer h i ≡ Some OddAnswer → ⊥
not_odd [] i is = cc
not_odd (e ∷ h) i is = elim (cases_Bool (is_same e.identity i)) [ inl same ↦ (let it = rw same at is in cc) | inr other ↦ not_odd h i (rw other at is) ]

-- nor is one that is kept
pub not_kept_odd : (h : List Entry) (i : Identity) → kept_answer h i ≡ Some OddAnswer → ⊥
not_kept_odd h i is = by (is_closed h i.epoch) is
  where
    by : (b : Bool) → cond b None (stored_answer h i) ≡ Some OddAnswer → ⊥
    by true odd = cc
    by false odd = not_odd h i odd

pub odd_is_damage : (t : Tables) (i : Identity) → t.answer i ≡ Some OddAnswer → IsDamaged t
odd_is_damage t i odd h history view = let read = reading_of h history in not_kept_odd h i (sym ((view read.0 read.1).answer_is i) ∙ odd)

-- trees of a desk of ours show their tables alone
pub of_ours : (is_ours : Bool) (db : Trees) (t : Tables) → ShowsLeft is_ours db t → (IsTrue is_ours → AreOurs db) → t ≡ tables_at db
of_ours is_ours db t (inl is) ours = is
of_ours is_ours db t (inr none) ours = absurd (none.1 (ours none.0))

pub ready_ours : (db : Database) (numbers : Numbers) → IsReady db → IsDesk numbers db.trees → AreOurs db.trees
ready_ours db numbers ready desk = record { numbers = numbers; ready = subst IsReady (λ i. record { schema = ready.schema i; trees = db.trees }) ready; desk = desk }

module _ {S : Type 0} (g : Ghosts S) (old new : Held S) where
  pub stays : (IsTrue (state g new).is_open → IsTrue (state g old).is_open × ((state g new).now ≡ (state g old).now)) → StaysOrShuts (tables_of g old) (tables_of g new)
  stays undone = elim (cases_Bool (state g new).is_open) [
    | inl is ↦ let it = undone is in let was = it.0 in inl (rw (is, was) (ap (λ (d : Database). Some (tables_at d.trees)) it.1))
    | inr shut ↦ inr (rw shut refl)
  ]

  pub same_shown : IsTrue (state g old).is_open → IsTrue (state g new).is_open → (state g new).now ≡ (state g old).now → tables_of g new ≡ tables_of g old
  same_shown was is same = rw (was, is) (ap (λ (d : Database). Some (tables_at d.trees)) same)

  pub shown_now : (P : Tables → Type 0) → IsTrue (state g old).is_open → P (tables_at (state g old).now.trees) → Shows (tables_of g old) P
  shown_now P was p = rw was p

  module _ (is_ours : Bool) (numbers : Numbers) (holds : Holds g old is_ours numbers) where
    pub desk_if_open : IsTrue is_ours → IsDeskIfOpen (state g old)
    desk_if_open ours is_open = (holds.ready ours is_open).0.schema

    ready_as : (state g new).now ≡ (state g old).now → IsReady (state g old).now × IsDesk numbers (state g old).now.trees → IsReady (state g new).now × IsDesk numbers (state g new).now.trees
    ready_as same it = subst (λ (d : Database). IsReady d × IsDesk numbers d.trees) (sym same) it

    -- a call that read leaves a shelf a shelf
    pub holds_read : {X : Type 0} (Found : Trees → X → Type 0) (r : Result X Error) → new.in_transaction ≡ false → (IsTrue (state g new).is_open → HasCleanDisk (state g new)) → Serves Found (state g old) (state g new) r → Holds g new is_ours numbers
    holds_read Found (Ok x) mode clean it = record {
      autocommit = mode;
      ready = λ ours is_open. let f = it.found (clean is_open) (desk_if_open ours) in ready_as f.2 (holds.ready ours f.0);
    }
    holds_read Found (Err e) mode clean it = record {
      autocommit = mode;
      ready = λ ours is_open. let f = it.undone (desk_if_open ours) is_open in ready_as f.1 (holds.ready ours f.0);
    }

    knows_as : (counts : Counts) → (state g new).now ≡ (state g old).now → AreBounded counts (tables_at (state g old).now.trees) → AreBounded counts (tables_at (state g new).now.trees)
    knows_as counts same it = subst (λ (d : Database). AreBounded counts (tables_at d.trees)) (sym same) it

    -- what was known of counts still is so
    pub knows_read : {X : Type 0} (Found : Trees → X → Type 0) (r : Result X Error) (counts : Counts) → KnowsCounts g old is_ours counts → (IsTrue (state g new).is_open → HasCleanDisk (state g new))
        → Serves Found (state g old) (state g new) r → KnowsCounts g new is_ours counts
    knows_read Found (Ok x) counts knows clean it = λ ours is_open. let f = it.found (clean is_open) (desk_if_open ours) in knows_as counts f.2 (knows ours f.0)
    knows_read Found (Err e) counts knows clean it = λ ours is_open. let f = it.undone (desk_if_open ours) is_open in knows_as counts f.1 (knows ours f.0)

    pub stops_read : {X : Type 0} (Found : Trees → X → Type 0) (r : Result X Error) → (IsTrue (state g old).is_open → (state g old).now ≡ (state g old).committed) → (IsTrue (state g old).is_open → (state g old).may_leave (state g old).committed.trees)
        → Serves Found (state g old) (state g new) r → IsTrue is_ours → HasCleanDisk (state g new) → (t : Tables) → stops_of g is_ours new t → stops_of g is_ours old t
    stops_read Found r settled kept it ours clean t left = elim ((it.survives (desk_if_open ours)).crash clean left.0 left.1) [
      | inl was ↦ (left.0, was, left.2)
      | inr same ↦ (left.0, subst (state g old).may_leave (sym (same.1 ∙ ap (λ (d : Database). d.trees) (settled same.0))) (kept same.0), left.2)
    ]

    -- what a call that read found
    pub served : {X : Type 0} {Found : Trees → X → Type 0} → IsTrue is_ours → HasCleanDisk (state g new) → (x : X) → Serves Found (state g old) (state g new) (Ok x) → IsTrue (state g old).is_open × Found (state g old).now.trees x
    served ours clean x it = let f = it.found clean (desk_if_open ours) in (f.0, f.3)

    module _ (delta : Delta) (kept : Request) (r : Result (Unit {0}) Error) (acts : Transacts (Commits delta kept numbers) (state g old) (state g new) r)
        (single : IsTrue is_ours → IsTrue (state g old).is_open → AreSingle (state g old).now.trees) where
      committed_from : IsTrue is_ours → IsTrue (state g old).is_open → (after : Database) → Commits delta kept numbers (state g old).now after → IsCommitted (tables_at (state g old).now.trees) delta (kept_row kept) (tables_at after.trees)
      committed_from ours was after c = let it = holds.ready ours was in c.committed it.0 (single ours was) it.1

      ours_after : IsTrue is_ours → IsTrue (state g old).is_open → (after : Database) → Commits delta kept numbers (state g old).now after → AreOurs after.trees
      ours_after ours was after c = let it = holds.ready ours was in ready_ours after (with_request numbers delta.least_epoch) (c.ready it.0) (c.desk it.0 it.1)

      pub stops_committed : IsTrue is_ours → HasCleanDisk (state g new) → (t : Tables) → stops_of g is_ours new t → stops_of g is_ours old t ⊎ Shows (tables_of g old) (λ was. IsCommitted was delta (kept_row kept) t)
      stops_committed ours clean t left = elim (acts.survives.crash clean left.0 left.1) [
        | inl was ↦ inl (left.0, was, left.2)
        | inr made ↦
            let all = committed_from ours made.0 made.1.0 made.1.2 in
            let tables = of_ours is_ours left.0 t left.2 (λ yes. subst AreOurs (sym made.1.1) (ours_after yes made.0 made.1.0 made.1.2)) in
            inr (shown_now (λ x. IsCommitted x delta (kept_row kept) t) made.0 (subst (λ x. IsCommitted (tables_at (state g old).now.trees) delta (kept_row kept) x) (sym (tables ∙ ap tables_at made.1.1)) all))
      ]

      done_as : r ≡ Ok (tt {0}) → HasCleanDisk (state g new) → IsTrue (state g old).is_open × IsTrue (state g new).is_open × Commits delta kept numbers (state g old).now (state g new).now
      done_as is clean = subst (λ q. OnOk q (IsTrue (state g old).is_open × IsTrue (state g new).is_open × Commits delta kept numbers (state g old).now (state g new).now)) is (acts.done clean)

      pub holds_committed : r ≡ Ok (tt {0}) → new.in_transaction ≡ false → (IsTrue (state g new).is_open → HasCleanDisk (state g new)) → Holds g new is_ours (with_request numbers delta.least_epoch)
      holds_committed is mode clean = record {
        autocommit = mode;
        ready = λ ours is_open.
            let d = done_as is (clean is_open) in
            let it = holds.ready ours d.0 in
            (d.2.ready it.0, d.2.desk it.0 it.1);
      }

      pub knows_committed : r ≡ Ok (tt {0}) → (IsTrue (state g new).is_open → HasCleanDisk (state g new)) → (known more : Counts) → KnowsCounts g old is_ours known
          → ((t next : Tables) (row : AnswerRow) → AreBounded known t → IsCommitted t delta row next → AreBounded more next) → KnowsCounts g new is_ours more
      knows_committed is clean known more knows noted = λ ours is_open.
          let d = done_as is (clean is_open) in
          noted (tables_at (state g old).now.trees) (tables_at (state g new).now.trees) (kept_row kept) (knows ours d.0) (committed_from ours d.0 (state g new).now d.2)

      pub knows_undone : {e : Error} → r ≡ Err e → (counts : Counts) → KnowsCounts g old is_ours counts → KnowsCounts g new is_ours counts
      knows_undone {e} is counts knows = λ ours is_open.
          let it = subst (λ q. Rattle.std.proofs.Common.OnErr q (IsTrue (state g old).is_open × ((state g new).now ≡ (state g old).now))) is (acts.undone is_open) in
          knows_as counts it.1 (knows ours it.0)

      pub committed_shown : r ≡ Ok (tt {0}) → IsTrue is_ours → HasCleanDisk (state g new) → Shows (tables_of g old) (λ t. Shows (tables_of g new) (IsCommitted t delta (kept_row kept)))
      committed_shown is ours clean = let d = done_as is clean in let was = d.0 in let now = d.1 in rw (was, now) (committed_from ours d.0 (state g new).now d.2)

      pub alone : r ≡ Ok (tt {0}) → HasCleanDisk (state g new) → (IsTrue (state g new).is_open → (state g new).now ≡ (state g new).committed)
          → ((db : Trees) → IsTrue (state g new).is_open → (state g new).may_leave db → db ≡ (state g new).committed.trees) → (t : Tables) → stops_of g is_ours new t → tables_of g new ≡ Some t
      alone is clean settled law t left =
          let d = done_as is clean in
          let same : (state g new).now.trees ≡ left.0 = ap (λ (d : Database). d.trees) (settled d.1) ∙ sym (law left.0 d.1 left.1) in
          let tables = of_ours is_ours left.0 t left.2 (λ yes. subst AreOurs same (ours_after yes d.0 (state g new).now d.2)) in
          rw d.1 (ap (λ (t : Trees). Some (tables_at t)) same ∙ ap Some (sym tables))

      pub holds_undone : {e : Error} → r ≡ Err e → new.in_transaction ≡ false → Holds g new is_ours numbers
      holds_undone {e} is mode = record {
        autocommit = mode;
        ready = λ ours is_open.
            let it = subst (λ q. Rattle.std.proofs.Common.OnErr q (IsTrue (state g old).is_open × ((state g new).now ≡ (state g old).now))) is (acts.undone is_open) in
            ready_as it.1 (holds.ready ours it.0);
      }

-- a call that wrote nothing, after others
module _ {S : Type 0} (g : Ghosts S) (mid new : Held S) (still : Stays (state g mid) (state g new)) where
  pub holds_still : (is_ours : Bool) (numbers : Numbers) → new.in_transaction ≡ false → Holds g mid is_ours numbers → Holds g new is_ours numbers
  holds_still is_ours numbers mode holds = record {
    autocommit = mode;
    ready = λ ours is_open. let k = still.kept is_open in subst (λ (d : Database). IsReady d × IsDesk numbers d.trees) (sym k.1) (holds.ready ours k.0);
  }

  pub knows_still : (is_ours : Bool) (counts : Counts) → KnowsCounts g mid is_ours counts → KnowsCounts g new is_ours counts
  knows_still is_ours counts knows = λ ours is_open. let k = still.kept is_open in subst (λ (d : Database). AreBounded counts (tables_at d.trees)) (sym k.1) (knows ours k.0)

  pub stops_still : (is_ours : Bool) → HasCleanDisk (state g new) → (t : Tables) → stops_of g is_ours new t → stops_of g is_ours mid t
  stops_still is_ours clean t left = elim (still.survives.crash clean left.0 left.1) [ inl was ↦ (left.0, was, left.2) | inr none ↦ absurd none ]

  pub clean_still : HasCleanDisk (state g new) → HasCleanDisk (state g mid)
  clean_still clean = omega (arith, still.survives.clean, clean)

-- what a fault that is no damage leaves, where want of memory is told of an open store alone
module _ {S : Type 0} (g : Ghosts S) (old new : Held S) (undone : IsTrue (state g new).is_open → IsTrue (state g old).is_open × ((state g new).now ≡ (state g old).now)) where
  pub leaves : (f : ShelfFault) → f ≢ Damaged → (f ≡ Memory → IsTrue (state g new).is_open) → LeavesBy (cause_of f) (tables_of g old) (tables_of g new)
  leaves Memory sound memory = let is = memory refl in let it = undone is in same_shown g old new it.0 is it.1
  leaves Store sound memory = stays g old new undone
  leaves Damaged sound memory = absurd (sound refl)

pub blames : (f : ShelfFault) (old : Option Tables) → f ≢ Damaged → Blames f old
blames Damaged old sound = absurd (sound refl)
blames _ old sound = tt
