-- A shelf that was made.
use Rattle.review_sql_tables.proofs.Common.{◌≡◌, ◌∙◌, ◌⊎◌, inl, inr, Bool, Some, true, false, Ok, Err, IsTrue, refl, sym, ap, subst, arith, survives_then, Database, Held, state, State, HasCleanDisk, Error, Trees, Ghosts, schema_0, IsBlank, Transacts, IsReady}
use Rattle.review_sql_lookups.specs.Tables.{tables_at}
use Rattle.review_sql_writes.specs.Commits.{MakesDesk, IsDesk}
use Rattle.review_sql.proofs.{Saying.never_shown, Shown.of_ours, Shown.ready_ours}
use Rattle.review_sql.specs.Opened.{IsOpened, IsRefused, IsSeen}
use Rattle.review_sql.specs.Shelf.{IsCreated, AreOurs, Holds, IsAnyThere, IsUnmade, Stays}
use Rattle.review_sql.specs.declared.faults.DeskFault.{DeskFault}
use Rattle.review_sql.specs.declared.faults.DeskFault.TheVariants.{NotADesk, WrongVersion, Store, NotEmpty, NotOurs, Memory}
use Rattle.review_sql.specs.declared.seen.Seen.{Seen}

module _ {S : Type 0} (g : Ghosts S) (c0 c1 c2 : Held S) (is_ours : Bool) (decided : IsTrue is_ours → c1.schema ≡ schema_0) (x : Unit {0}) (acts : Transacts MakesDesk (state g c1) (state g c2) (Ok x)) where
  blank : c1.schema ≡ schema_0 → IsBlank schema_0 (state g c1).now
  blank is = record { schema_is = is; empty = tt }

  pub holds_made : c2.in_transaction ≡ false → (IsTrue (state g c2).is_open → HasCleanDisk (state g c2)) → Holds g c2 is_ours (record { requests = 0; least = 0 })
  holds_made mode clean = record {
    autocommit = mode;
    ready = λ ours is_open.
        let made = (acts.done (clean is_open)).2 in
        let b = blank (decided ours) in
        (made.ready b, made.desk b);
  }

  pub is_created : Stays (state g c0) (state g c1) → (HasCleanDisk (state g c1) → IsAnyThere c0.schema → ⊥) → (IsTrue (state g c2).is_open → (state g c2).now ≡ (state g c2).committed)
      → ((db : Trees) → IsTrue (state g c2).is_open → (state g c2).may_leave db → db ≡ (state g c2).committed.trees) → IsCreated g is_ours c0 (record { conn = c2; numbers = record { requests = 0; least = 0 }; faults = 0 })
  is_created stays none settled law = record {
    faults = refl;
    view = λ clean none.
        let d = acts.done clean in
        (d.1, d.2.view (blank (ap (λ (d : Database). d.schema) (stays.kept d.0).1 ∙ none)));
    empty = λ clean any. none (omega (arith, acts.survives.clean, clean)) any;
    alone = λ clean t left.
        let d = acts.done clean in
        let same : (state g c2).now.trees ≡ left.0 = ap (λ (d : Database). d.trees) (settled d.1) ∙ sym (law left.0 d.1 left.1) in
        let made : IsTrue is_ours → AreOurs (state g c2).now.trees = λ ours. let b = blank (decided ours) in ready_ours (state g c2).now _ (d.2.ready b) (d.2.desk b) in
        rw d.1 (ap (λ (t : Trees). Some (tables_at t)) same ∙ ap Some (sym (of_ours is_ours left.0 t left.2 (λ ours. subst AreOurs same (made ours)))));
    survives = survives_then (state g c0) (state g c1) (state g c2) _ _ _ (λ _ db h. absurd h)
        (λ clean db h. let was = stays.kept h.0 in (was.0, (h.1.0, h.1.1, subst (λ (d : Database). MakesDesk d h.1.0) was.1 h.1.2))) stays.survives acts.survives;
  }

-- a desk was not made
pub unmade : (s0 s1 s2 : State) (e : Error) → Stays s0 s1 → Transacts {X = Unit {0}} MakesDesk s1 s2 (Err e) → IsUnmade s0 s2
unmade s0 s1 s2 e stays acts = record {
  undone = λ is_open. let u = acts.undone is_open in let k = stays.kept u.0 in (k.0, u.1 ∙ k.1);
  survives = survives_then s0 s1 s2 _ _ _ (λ _ db h. absurd h)
      (λ clean db h. let was = stays.kept h.0 in (was.0, (h.1.0, h.1.1, subst (λ (d : Database). MakesDesk d h.1.0) was.1 h.1.2))) stays.survives acts.survives;
}

module _ {S : Type 0} (g : Ghosts S) (c0 c1 : Held S) (seen : Seen) where
  pub holds_opened : (is_ours : Bool) → (IsTrue is_ours → seen.is_ours ≡ true) → c1.in_transaction ≡ false → Stays (state g c0) (state g c1) → (IsTrue (state g c1).is_open → IsSeen (state g c0) seen) → Holds g c1 is_ours seen.numbers
  holds_opened is_ours seen_ours mode stays it = record {
    autocommit = mode;
    ready = λ ours is_open.
        subst (λ (d : Database). IsReady d × IsDesk seen.numbers d.trees) (sym ((stays.kept is_open).1)) ((it is_open).ready (seen_ours ours));
  }

  pub is_opened : Stays (state g c0) (state g c1) → IsOpened g c0 (record { conn = c1; numbers = seen.numbers; faults = 0 })
  is_opened stays = record { faults = refl; stays = stays }

  -- tables that are not ours are of another form, or two rows have one rowid
  pub not_ours : seen.is_ours ≡ false → IsSeen (state g c0) seen → IsRefused (state g c0) NotOurs
  not_ours not it = record {
    no_desk = λ is. absurd (cc);
    other_version = λ is. absurd (cc);
    not_ours = λ is. ((seen.numbers, it.there), λ has all. let e = sym not ∙ it.ours has all in cc);
    not_empty = λ is. cc;
  }

  -- where there is no table, none is seen
  pub none_seen : (s : State) → s.now.schema ≡ schema_0 → IsSeen s seen → ⊥
  none_seen s has it = never_shown s.now has it.there.rows it.there.shown

-- a store with no table is no desk
pub empty_refused : (s : State) (fault : DeskFault) → s.now.schema ≡ schema_0 → IsRefused s fault → (fault ≡ NotADesk) ⊎ ((fault ≡ Memory) ⊎ (fault ≡ Store))
empty_refused s NotADesk has it = inl refl
empty_refused s WrongVersion has it = let other = it.other_version refl in absurd (never_shown s.now has other.0 other.1)
empty_refused s Store has it = inr (inr refl)
empty_refused s NotEmpty has it = absurd (it.not_empty refl)
empty_refused s NotOurs has it = let there = (it.not_ours refl).0.1 in absurd (never_shown s.now has there.rows there.shown)
empty_refused s Memory has it = inr (inl refl)
