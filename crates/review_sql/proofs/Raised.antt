-- Tables of an earlier version that are made those of a desk, in one transaction.
use Rattle.review_sql_tables.proofs.Common.{◌≡◌, ◌≢◌, ◌∙◌, ◌⊎◌, inl, inr, Bool, true, false, Some, Ok, Err, Result, List, OnOk, OnErr, IfOk, IfErr, IsTrue, refl, sym, ap, subst, arith, Decides, is_ok, survives_then, survives_weaker, Database, Held, state, listing_schema, understood, State, HasCleanDisk, Survives, Error, everything, Trees, Ghosts, desk_schema, Migrates, Inside, Looks, OnDesk, Transacts, Within, schema_at, version_of, Then}
use Rattle.review_sql_tables.{proofs.Sequences.settled_as, specs.declared.texts.TheConstants.FIND_ANSWER}
use Rattle.review_sql_tables.specs.declared.versions.{EarlierVersion.EarlierVersion, TablesVersion.TheVariants.Third}
use Rattle.review_sql_records.proofs.Common.{Entry, Next, follow, IsView}
use Rattle.review_sql_lookups.specs.Tables.{tables_in, tables_at}
use Rattle.review_sql_writes.specs.{declared.numbers.Numbers.Numbers, inner.Words.SetsDesk, inner.Words.SetsLeast}
use Rattle.review_sql.proofs.{Again.goes_on, Made.holds_opened, Made.is_opened}
use Rattle.review_sql.proofs.Saying.{earlier_of_ours, first_least, not_ok}
use Rattle.review_sql.proofs.{Shown.of_ours, Shown.ready_ours, Staying.stays_then, Upgraded.Looked, Upgraded.upgrades}
use Rattle.review_sql.specs.Migrated.{IsBrought, IsNotMigrated, IsOpenedAsIs, IsRaised, IsUnfit, IsUpgraded, IsViewIn, LeavesUpgraded, Upgrades, if_whole}
use Rattle.review_sql.specs.{Opened.AreAllApart, Opened.IsThere, Shelf.AreOurs, Shelf.Holds, Shelf.Stays}
use Rattle.review_sql.specs.declared.faults.DeskFault.{DeskFault, TheVariants.NotADesk, TheVariants.WrongVersion}
use Rattle.review_sql_tables.specs.declared.versions.EarlierVersion.TheVariants as earlier

-- what was looked at, as a step that changes nothing
looked : {X : Type 0} (Found : Trees → X → Type 0) (a b : State) (x : X) → Looks Found a b (Ok x) → Within {X = X} (λ old new. old.schema ≡ desk_schema → (new ≡ old) × Found old.trees x) a b (Ok x)
looked Found a b x it = record { ran = λ clean on has. (let f = it.found clean on (λ _. has) in (f.0, f.2)); kept = it.kept; survives = it.survives }

-- the least open epoch and the version are put
abbrev Puts : Numbers → Trees → Trees → Type 0
Puts numbers = Then (SetsLeast numbers.least) (SetsDesk numbers.requests)

module _ {X : Type 0} (version : EarlierVersion) (numbers : Numbers) (s0 s1 s2 s3 : State) (x : X) (migrates : Within (Migrates version) s0 s1 (Ok x)) where
  module _ (is : Bool) (looks : Looks (λ db is. Decides is (AreAllApart db)) s1 s2 (Ok is)) where
    both : Within {X = Bool} (Next (Migrates version) (λ old new. old.schema ≡ desk_schema → (new ≡ old) × Decides is (AreAllApart old.trees))) s0 s2 (Ok is)
    both = follow _ _ s0 s1 s2 x (Ok is) migrates (looked (λ db is. Decides is (AreAllApart db)) s1 s2 is looks)

    -- rowids are apart, and the version is put
    pub raised_ours : {Z : Type 0} (z : Z) → is ≡ true → Inside (Puts numbers) s2 s3 (Ok z) → Within (Upgrades version true numbers) s0 s3 (if_whole (Ok true))
    raised_ours z apart puts =
        let two = subst (λ b. Within {X = Bool} (Next (Migrates version) (λ old new. old.schema ≡ desk_schema → (new ≡ old) × Decides b (AreAllApart old.trees))) s0 s2 (Ok is)) apart both in
        settled_as (Next (Next (Migrates version) Looked) (OnDesk (Puts numbers))) (Upgrades version true numbers) s0 s3 z (tt {0}) (upgrades version numbers) (follow _ _ s0 s2 s3 is (Ok z) two puts)

-- nothing was done before
pub stays_acts : {X : Type 0} (R : Database → Database → Type 0) (s0 s1 s2 : State) (r : Result X Error) → Stays s0 s1 → Transacts R s1 s2 r → Transacts R s0 s2 r
stays_acts {X} R s0 s1 s2 r stays acts = record {
  done = λ clean. by_done r (acts.done clean);
  undone = λ is_open. by_undone r (acts.undone is_open);
  survives = survives_then s0 s1 s2 _ _ _ (λ _ db h. absurd h) (λ clean db h. let was = stays.kept h.0 in (was.0, (h.1.0, h.1.1, subst (λ (d : Database). R d h.1.0) was.1 h.1.2))) stays.survives acts.survives;
}
  where
    by_done : (r : Result X Error) → OnOk r (IsTrue s1.is_open × IsTrue s2.is_open × R s1.now s2.now) → OnOk r (IsTrue s0.is_open × IsTrue s2.is_open × R s0.now s2.now)
    by_done (Ok x) h = let was = stays.kept h.0 in (was.0, h.1, subst (λ (d : Database). R d s2.now) was.1 h.2)
    by_done (Err e) h = tt

    by_undone : (r : Result X Error) → OnErr r (IsTrue s1.is_open × (s2.now ≡ s1.now)) → OnErr r (IsTrue s0.is_open × (s2.now ≡ s0.now))
    by_undone (Ok x) h = tt
    by_undone (Err e) h = let was = stays.kept h.0 in (was.0, h.1 ∙ was.1)

-- tables of an earlier version that are there, where they are ours, become those of the same history
same_history : (version : EarlierVersion) (is_ours : Bool) (numbers : Numbers) (old after : Database) (db : Trees) → (IsTrue is_ours → old.schema ≡ schema_at (version_of version)) → IsThere (version_of version) old numbers
    → Upgrades version is_ours numbers old after → db ≡ after.trees → IsTrue is_ours → (h : List Entry) → IsViewIn version h (tables_in version old.trees) → IsView h (tables_at db)
same_history version is_ours numbers old after db form there upgrades is ours h was =
    subst (λ (t : Trees). IsView h (tables_at t)) (sym is) (upgrades.view ours (form ours) (earlier_of_ours version old (form ours) numbers there) (first_least version old numbers.least there.least) h was)

-- ---- refusals

-- in tables of our form of an earlier version no desk of version 3 is there
unread : (version : EarlierVersion) → is_ok (understood (schema_at (version_of version)) FIND_ANSWER.now) ≡ false
unfolding understood everything listing_schema
unread earlier.First = refl
unread earlier.Second = refl

pub no_latest : (version : EarlierVersion) (db : Database) (numbers : Numbers) → db.schema ≡ schema_at (version_of version) → IsThere Third db numbers → ⊥
no_latest version db numbers has there =
    let reads = there.tables.each FIND_ANSWER.now (10, (omega arith), refl) in
    not_ok _ reads.0 (unread version) (sym (ap (λ s. understood s FIND_ANSWER.now) has) ∙ reads.1)

-- what a refusal leaves, where a stop leaves so much
unmigrated : (is_ours : Bool) (fault : DeskFault) (s t : State) → (IsTrue t.is_open → IsTrue s.is_open × (t.now ≡ s.now)) → Survives s t (LeavesUpgraded is_ours s) → ((fault ≡ NotADesk) ⊎ (fault ≡ WrongVersion) → Stays s t) → IsNotMigrated is_ours fault s t
unmigrated is_ours fault s t undone survives stays = record {
  undone = undone;
  survives = survives;
  no_earlier = stays;
  latest = λ ours numbers there. record { kept = undone; survives = survives_weaker s t (LeavesUpgraded is_ours s) (λ _. ⊥) (λ _ db h. no_latest h.version s.now numbers (h.form ours) there) survives };
}

-- nothing was done
pub not_migrated : (is_ours : Bool) (fault : DeskFault) (s t : State) → Stays s t → IsNotMigrated is_ours fault s t
not_migrated is_ours fault s t stays = unmigrated is_ours fault s t stays.kept (survives_weaker s t (λ _. ⊥) _ (λ _ db h. absurd h) stays.survives) (λ _. stays)

pub not_migrated_if : {X : Type 0} (is_ours : Bool) (r : Result X DeskFault) (s t : State) → Stays s t → IfErr r (λ e. IsNotMigrated is_ours e s t)
not_migrated_if is_ours (Ok x) s t stays = tt
not_migrated_if is_ours (Err e) s t stays = not_migrated is_ours e s t stays

-- it was taken back, after a desk of an earlier version was seen, as ours where it is to be
pub taken_back : {X : Type 0} (version : EarlierVersion) (is_ours : Bool) (numbers : Numbers) (fault : DeskFault) (r s t : State) (e : Error) → (fault ≢ NotADesk) × (fault ≢ WrongVersion) → Stays r s
    → (IsTrue s.is_open → IsThere (version_of version) r.now numbers) → (IsTrue is_ours → r.now.schema ≡ schema_at (version_of version)) → Transacts {X = X} (Upgrades version is_ours numbers) s t (Err e) → IsNotMigrated is_ours fault r t
taken_back version is_ours numbers fault r s t e plain stays there form acts = unmigrated is_ours fault r t
    (λ is_open. let u = acts.undone is_open in let was = stays.kept u.0 in (was.0, u.1 ∙ was.1))
    (survives_then r s t _ _ _ (λ _ db h. absurd h)
    (λ clean db h.
    let was = stays.kept h.0 in
    let made = subst (λ (d : Database). Upgrades version is_ours numbers d h.1.0) was.1 h.1.2 in
    record {
      version = version;
      is_open = was.0;
      numbers = numbers;
      there = there h.0;
      form = form;
      after = h.1.0;
      left = h.1.1;
      upgrades = made;
      view = same_history version is_ours numbers r.now h.1.0 db form (there h.0) made h.1.1;
    }) stays.survives acts.survives)
    (λ is. absurd (elim is [ inl no_desk ↦ plain.0 no_desk | inr other ↦ plain.1 other ]))

pub unmigrated_then : (is_ours : Bool) (fault : DeskFault) (s0 s1 s2 : State) → Stays s0 s1 → IsNotMigrated is_ours fault s1 s2 → IsNotMigrated is_ours fault s0 s2
unmigrated_then is_ours fault s0 s1 s2 stays it = unmigrated is_ours fault s0 s2
    (λ is_open. let u = it.undone is_open in let was = stays.kept u.0 in (was.0, u.1 ∙ was.1))
    (survives_then s0 s1 s2 _ _ _ (λ _ db h. absurd h)
    (λ clean db h. let was = stays.kept h.is_open in record {
      version = h.version;
      is_open = was.0;
      numbers = h.numbers;
      there = subst (λ (d : Database). IsThere (version_of h.version) d h.numbers) was.1 h.there;
      form = λ ours. sym (ap (λ (d : Database). d.schema) was.1) ∙ h.form ours;
      after = h.after;
      left = h.left;
      upgrades = subst (λ (d : Database). Upgrades h.version is_ours h.numbers d h.after) was.1 h.upgrades;
      view = subst (λ (d : Database). IsTrue is_ours → (entries : List Entry) → IsViewIn h.version entries (tables_in h.version d.trees) → IsView entries (tables_at db)) was.1 h.view;
    }) stays.survives it.survives)
    (λ is. stays_then s0 s1 s2 stays (it.no_earlier is))

-- ---- after the table `desk` was asked

module _ {S : Type 0} (g : Ghosts S) (is_ours : Bool) (c0 c1 c2 : Held S) (stays : Stays (state g c0) (state g c1)) where
  -- tables of an earlier version were made those of version 3
  pub brought_earlier : (version : EarlierVersion) (r : Result Numbers DeskFault) → IfOk r (IsRaised g version is_ours c1 c2) → IfOk r (IsBrought g is_ours c0 c2)
  brought_earlier version (Err e) it = tt
  brought_earlier version (Ok numbers) it = inl (
    version,
    record {
      form = λ clean ours. sym (ap (λ (d : Database). d.schema) (same clean)) ∙ it.form clean ours;
      there = λ clean. subst (λ (d : Database). IsThere (version_of version) d numbers) (same clean) (it.there clean);
      acts = stays_acts (Upgrades version is_ours numbers) (state g c0) (state g c1) (state g c2) (Ok (tt {0})) stays it.acts;
    },
  )
    where
      same : HasCleanDisk (state g c2) → (state g c1).now ≡ (state g c0).now
      same clean = (stays.kept (it.acts.done clean).0).1

  pub unmigrated_earlier : (r : Result Numbers DeskFault) → IfErr r (λ e. IsNotMigrated is_ours e (state g c1) (state g c2)) → IfErr r (λ e. IsNotMigrated is_ours e (state g c0) (state g c2))
  unmigrated_earlier (Ok numbers) it = tt
  unmigrated_earlier (Err e) it = unmigrated_then is_ours e (state g c0) (state g c1) (state g c2) stays it

  pub unfit_earlier : (r : Result Numbers DeskFault) → IfErr r (λ e. IsNotMigrated is_ours e (state g c1) (state g c2)) → IfErr r (IsUnfit (state g c1).now) → IsTrue (state g c2).is_open → IfErr r (IsUnfit (state g c0).now)
  unfit_earlier (Ok numbers) left it is_open = tt
  unfit_earlier (Err e) left it is_open = subst (λ (d : Database). IsUnfit d e) (stays.kept (left.undone is_open).0).1 it

  -- tables of version 3 stay
  pub unmigrated_latest : (r : Result Numbers DeskFault) → Stays (state g c1) (state g c2) → IfErr r (λ e. IsNotMigrated is_ours e (state g c0) (state g c2))
  unmigrated_latest r more = not_migrated_if is_ours r (state g c0) (state g c2) (stays_then (state g c0) (state g c1) (state g c2) stays more)

  pub unfit_latest : (r : Result Numbers DeskFault) → Stays (state g c1) (state g c2) → IfErr r (IsUnfit (state g c1).now) → IsTrue (state g c2).is_open → IfErr r (IsUnfit (state g c0).now)
  unfit_latest r more it is_open = subst (λ (d : Database). IfErr r (IsUnfit d)) (stays.kept (more.kept is_open).0).1 it

-- ---- the shelf

module _ {S : Type 0} (g : Ghosts S) (is_ours : Bool) (c0 c1 : Held S) (numbers : Numbers) where
  pub holds_brought : c1.in_transaction ≡ false → (IsTrue (state g c1).is_open → HasCleanDisk (state g c1)) → IsBrought g is_ours c0 c1 numbers → Holds g c1 is_ours numbers
  holds_brought mode clean (inl (_, it)) = record { autocommit = mode; ready = λ ours is_open. (it.acts.done (clean is_open)).2.ready ours (it.form (clean is_open) ours) }
  holds_brought mode clean (inr it) = holds_opened g c0 c1 (record { is_ours = it.has_form; numbers = numbers }) is_ours it.ours mode it.stays it.seen

  pub migrated : (IsTrue (state g c1).is_open → (state g c1).now ≡ (state g c1).committed) → ((db : Trees) → IsTrue (state g c1).is_open → (state g c1).may_leave db → db ≡ (state g c1).committed.trees)
      → IsBrought g is_ours c0 c1 numbers → IsUpgraded g is_ours c0 (record { conn = c1; numbers = numbers; faults = 0 }) ⊎ IsOpenedAsIs g is_ours c0 (record { conn = c1; numbers = numbers; faults = 0 })
  migrated settled law (inl (version, it)) = inl (record {
    version = version;
    faults = refl;
    form = it.form;
    there = λ clean. ((it.acts.done clean).1, it.there clean);
    keeps = λ clean ours. (it.acts.done clean).2.keeps ours (it.form clean ours);
    view = λ clean. same_history version is_ours numbers (state g c0).now (state g c1).now (state g c1).now.trees (it.form clean) (it.there clean) (it.acts.done clean).2 refl;
    alone = λ clean t left.
        let d = it.acts.done clean in
        let same : (state g c1).now.trees ≡ left.0 = ap (λ (d : Database). d.trees) (settled d.1) ∙ sym (law left.0 d.1 left.1) in
        let made : IsTrue is_ours → AreOurs (state g c1).now.trees = λ ours. let it = d.2.ready ours (it.form clean ours) in ready_ours (state g c1).now numbers it.0 it.1 in
        rw d.1 (ap (λ (t : Trees). Some (tables_at t)) same ∙ ap Some (sym (of_ours is_ours left.0 t left.2 (λ ours. subst AreOurs same (made ours)))));
    survives = survives_weaker (state g c0) (state g c1) _ _ (λ clean db h. (h.0, (h.1.0, h.1.1, h.1.2, same_history version is_ours numbers (state g c0).now h.1.0 db (it.form clean) (it.there clean) h.1.2 h.1.1))) it.acts.survives;
  })
  migrated settled law (inr it) =
      let opened = is_opened g c0 c1 (record { is_ours = it.has_form; numbers = numbers }) it.stays in
      inr (record { opened = opened; there = λ is_open. (it.seen is_open).there; goes_on = goes_on g is_ours c0 _ opened })
