-- Statements one after the other, and the transaction around them.
use Rattle.sqlite.specs.Clock.{timed}
use Rattle.sqlite.specs.State.{RunsCommand, shows_rows, ExecutesIn, ShowsRows, IsTooLate, KeepsCommit, ExecutesInside, Shows, KeepsCounts}
use Rattle.sqlite.specs.Steps.{FailsToCommit}
use Rattle.review_sql_tables.proofs.Common.{◌≡◌, ◌∙◌, ◌⊎◌, inl, inr, ℕ, List, true, false, refl, sym, ap, subst, IsTrue, Ok, Err, Result, OnOk, OnErr, IfErr, arith, [], Option, Some, None, IfOk, cases_Bool, IsPlain, survives_then, Database, understood, store_error, FailsToQuery, FailsToShow, Shown, IsNotRun, State, HasCleanDisk, Survives, IsUnchanged, IsRolledBack, Executes, Error, Returning, Trees, StoreError, OutOfMemory, Row, desk_schema, IsReady, IsDeskIfOpen, Within, OnDesk, Inside, Transacts, Looks, Serves, Then}
use Rattle.review_sql_tables.specs.Ran.{count_in, is_violation}

-- before a statement behind which the disk is clean it was clean
pub clean_before : {b c : State} {P : Trees → Type 0} → Survives b c P → HasCleanDisk c → HasCleanDisk b
clean_before survives clean = omega (arith, survives.clean)

kept_unchanged : (old new : State) → IsUnchanged old new ⊎ IsRolledBack old new → KeepsCommit old new
kept_unchanged old new (inl same) = record { was_open = λ _. same.0.was_open; committed = λ _. same.0.committed_is }
kept_unchanged old new (inr undone) = record { was_open = undone.was_open; committed = λ is_open. (undone.undone is_open).1 }

-- a statement inside a transaction commits nothing
keeps : (sql : List ℕ) (params : Row) (old new : State) (r : Result ℕ Error) → ExecutesInside 0 sql params old new r → KeepsCommit old new × OnOk r (IsTrue new.in_transaction)
keeps sql params old new (Ok count) h = (record { was_open = λ _. h.1.was_open; committed = λ _. h.1.committed_is }, h.1.mode)
keeps sql params old new (Err e) (inl ran) = (kept_unchanged old new ran.1, tt)
keeps sql params old new (Err e) (inr barred) = (kept_unchanged old new (inl barred.2), tt)

pub opened : (sql : List ℕ) (params : Row) (old new : State) (r : Result ℕ Error) → ExecutesInside 0 sql params old new r → OnOk r (IsTrue new.is_open)
opened sql params old new (Ok count) h = h.1.is_open
opened sql params old new (Err e) h = tt

pub keeps_then : (a b c : State) → KeepsCommit a b → KeepsCommit b c → KeepsCommit a c
keeps_then a b c p q = record { was_open = λ h. p.was_open (q.was_open h); committed = λ h. q.committed h ∙ p.committed (q.was_open h) }

-- one statement, of which is known where it leads if it succeeds
pub one : (sql : List ℕ) (params : Row) (old new : State) (r : Result ℕ Error) (R : Database → Database → Type 0)
    → ((count : ℕ) → Executes sql params old new (Ok count) → R old.now new.now)
    → (HasCleanDisk new → IsTrue old.in_transaction → ExecutesInside 0 sql params old new r) → Survives old new (λ _. ⊥) → Within R old new r
one sql params old new r R does runs survives = record {
  ran = λ clean on. by_result r (runs clean on);
  kept = λ clean on. keeps sql params old new r (runs clean on);
  survives = survives;
}
  where
    by_result : (r : Result ℕ Error) → ExecutesInside 0 sql params old new r → OnOk r (R old.now new.now)
    by_result (Ok count) h = does count h.0
    by_result (Err e) h = tt

-- one statement on the tables of a desk
pub one_inside : (sql : List ℕ) (params : Row) (old new : State) (r : Result ℕ Error) (R : Trees → Trees → Type 0)
    → ((count : ℕ) → IsReady old.now → Executes sql params old new (Ok count) → IsReady new.now × R old.now.trees new.now.trees)
    → (HasCleanDisk new → IsTrue old.in_transaction → ExecutesInside 0 sql params old new r) → Survives old new (λ _. ⊥) → Inside R old new r
one_inside sql params old new r R does runs survives = one sql params old new r (OnDesk R) (λ count h. record { ready = λ has. (does count has h).0; changes = λ has. (does count has h).1 }) runs survives

-- the same, where it tells how many rows it changed
pub one_counted : (sql : List ℕ) (params : Row) (old new : State) (r : Result ℕ Error) (R : ℕ → Trees → Trees → Type 0)
    → ((count : ℕ) → IsReady old.now → Executes sql params old new (Ok count) → IsReady new.now × R count old.now.trees new.now.trees)
    → (HasCleanDisk new → IsTrue old.in_transaction → ExecutesInside 0 sql params old new r) → Survives old new (λ _. ⊥) → Inside (R (count_in r)) old new r
one_counted sql params old new r R does runs survives = record {
  ran = λ clean on. by_result r (runs clean on);
  kept = λ clean on. keeps sql params old new r (runs clean on);
  survives = survives;
}
  where
    by_result : (r : Result ℕ Error) → ExecutesInside 0 sql params old new r → OnOk r (OnDesk (R (count_in r)) old.now new.now)
    by_result (Ok count) h = record { ready = λ has. (does count has h.0).0; changes = λ has. (does count has h.0).1 }
    by_result (Err e) h = tt

-- a fault of the store is no rule that is broken
no_rule : (cause : StoreError) (e : Error) → e ≡ store_error cause → IsTrue (is_violation e) → ⊥
no_rule OutOfMemory e is broken = let f = rw is at broken in cc
no_rule _ e is broken = let f = rw is at broken in cc

unchanged_by_rules : (sql : List ℕ) (params : Row) (old new : State) (e : Error) → IsTrue (is_violation e) → Executes sql params old new (Err e) → IsUnchanged old new
unfolding ExecutesIn IsNotRun
unchanged_by_rules sql params old new e broken (inl (inl none)) = none.1
unchanged_by_rules sql params old new e broken (inl (inr fails)) = absurd (no_rule fails.0 e fails.1 broken)
unchanged_by_rules sql params old new e broken (inr ran) = elim (cases_Bool (shows_rows false ran.0)) [
  | inl shows ↦ (rw shows at ran.2).1
  | inr runs ↦ by_command (rw runs at ran.2)
]
  where
    by_command : RunsCommand old new sql ran.0 (timed params ran.0.formats ran.1.now) (Err e) → IsUnchanged old new
    by_command (inl refused) = refused.1
    by_command (inr fails) = absurd (no_rule fails.0 e fails.1 broken)

-- what a rule of the table refused changed nothing
pub refused : (sql : List ℕ) (params : Row) (old new : State) (r : Result ℕ Error) → IsTrue old.in_transaction → ExecutesInside 0 sql params old new r
    → IfErr r (λ e. IsTrue (is_violation e) → (new.now ≡ old.now) × IsTrue new.in_transaction)
refused sql params old new (Ok count) on h = tt
refused sql params old new (Err e) on (inl ran) = λ broken. let same = unchanged_by_rules sql params old new e broken ran.0 in (same.0.now_is, same.0.mode ∙ on)
refused sql params old new (Err e) on (inr barred) = λ broken. (barred.2.0.now_is, barred.2.0.mode ∙ on)

-- one database after the other
abbrev pub Next : (Database → Database → Type 0) → (Database → Database → Type 0) → Database → Database → Type 0
Next First Last old new = (mid : Database) × First old mid × Last mid new

module _ {X Y : Type 0} (R Q : Database → Database → Type 0) (a b c : State) where
  -- the first succeeded, and then the second ran
  pub follow : (x : X) (r : Result Y Error) → Within R a b (Ok x) → Within Q b c r → Within (Next R Q) a c r
  follow x r one two = record {
    ran = λ clean on.
        let earlier = clean_before two.survives clean in
        by_result r (one.ran earlier on) (two.ran clean (one.kept earlier on).1);
    kept = λ clean on.
        let first = one.kept (clean_before two.survives clean) on in
        let second = two.kept clean first.1 in
        (keeps_then a b c first.0 second.0, second.1);
    survives = survives_then a b c _ _ _ (λ _ db h. h) (λ _ db h. h) one.survives two.survives;
  }
    where
      by_result : (r : Result Y Error) → R a.now b.now → OnOk r (Q b.now c.now) → OnOk r (Next R Q a.now c.now)
      by_result (Ok y) first second = (b.now, first, second)
      by_result (Err e) first second = tt

-- the same, told otherwise, however it ended
pub retold : {X : Type 0} (R Q : Database → Database → Type 0) (a b : State) (r : Result X Error) → ((old new : Database) → R old new → Q old new) → Within R a b r → Within Q a b r
retold {X} R Q a b r f it = record { ran = λ clean on. by_result r (it.ran clean on); kept = it.kept; survives = it.survives }
  where
    by_result : (r : Result X Error) → OnOk r (R a.now b.now) → OnOk r (Q a.now b.now)
    by_result (Ok x) h = f _ _ h
    by_result (Err e) h = tt

-- the same, told otherwise, where it succeeded
pub settled_as : {X Y : Type 0} (R Q : Database → Database → Type 0) (a b : State) (x : X) (y : Y) → ((old new : Database) → R old new → Q old new) → Within R a b (Ok x) → Within Q a b (Ok y)
settled_as R Q a b x y f it = record { ran = λ clean on. f _ _ (it.ran clean on); kept = it.kept; survives = it.survives }

desk_next : (R Q : Trees → Trees → Type 0) (old new : Database) → Next (OnDesk R) (OnDesk Q) old new → OnDesk (Then R Q) old new
desk_next R Q old new h = record { ready = λ has. h.2.ready (h.1.ready has); changes = λ has. (h.0.trees, h.1.changes has, h.2.changes (h.1.ready has)) }

-- the first succeeded, and then the second ran, on the tables of a desk
pub next : {X Y : Type 0} (R Q : Trees → Trees → Type 0) (a b c : State) (x : X) (r : Result Y Error) → Inside R a b (Ok x) → Inside Q b c r → Inside (Then R Q) a c r
next R Q a b c x r one two = retold (Next (OnDesk R) (OnDesk Q)) (OnDesk (Then R Q)) a c r (desk_next R Q) (follow (OnDesk R) (OnDesk Q) a b c x r one two)

-- the first failed, so the whole did
pub stop : {X Y : Type 0} (R Q : Database → Database → Type 0) (a b : State) (e f : Error) → Within {X = X} R a b (Err e) → Within {X = Y} Q a b (Err f)
stop R Q a b e f one = record { ran = λ _ _. tt; kept = λ clean on. ((one.kept clean on).0, tt); survives = one.survives }

-- the same, told otherwise
pub told : {X Y : Type 0} (R Q : Trees → Trees → Type 0) (a b : State) (x : X) (y : Y) → ((old new : Trees) → R old new → Q old new) → Inside R a b (Ok x) → Inside Q a b (Ok y)
told R Q a b x y f one = record { ran = λ clean on. let it = one.ran clean on in record { ready = it.ready; changes = λ has. f _ _ (it.changes has) }; kept = one.kept; survives = one.survives }

-- the same of what is known of the tables of a desk, told otherwise
pub told_ready : {X Y : Type 0} (R Q : Trees → Trees → Type 0) (a b : State) (x : X) (y : Y) → ((old new : Database) → IsReady new → R old.trees new.trees → Q old.trees new.trees) → Inside R a b (Ok x) → Inside Q a b (Ok y)
told_ready R Q a b x y f one = record { ran = λ clean on. let it = one.ran clean on in record { ready = it.ready; changes = λ has. f a.now b.now (it.ready has) (it.changes has) }; kept = one.kept; survives = one.survives }

-- a rule refused the first, and then the second ran
pub anew : {X Y : Type 0} (R Q : Trees → Trees → Type 0) (a b c : State) (e : Error) (r : Result Y Error) → Inside {X = X} R a b (Err e)
    → (HasCleanDisk b → IsTrue a.in_transaction → (b.now ≡ a.now) × IsTrue b.in_transaction) → Inside Q b c r → Inside Q a c r
anew R Q a b c e r one same two = record {
  ran = λ clean on. let it = same (clean_before two.survives clean) on in subst (λ d. OnOk r (OnDesk Q d c.now)) it.0 (two.ran clean it.1);
  kept = λ clean on. let second = two.kept clean (same (clean_before two.survives clean) on).1 in (keeps_then a b c (one.kept (clean_before two.survives clean) on).0 second.0, second.1);
  survives = survives_then a b c _ _ _ (λ _ db h. h) (λ _ db h. h) one.survives two.survives;
}

-- the same, told otherwise, however it ended
pub weaker : {X : Type 0} (R Q : Trees → Trees → Type 0) (a b : State) (r : Result X Error) → ((old new : Trees) → R old new → Q old new) → Inside R a b r → Inside Q a b r
weaker R Q a b r f it = retold (OnDesk R) (OnDesk Q) a b r (λ old new h. record { ready = h.ready; changes = λ has. f _ _ (h.changes has) }) it

-- no statement
pub still : {X : Type 0} (R : Trees → Trees → Type 0) (s : State) (x : X) → ((db : Trees) → R db db) → Inside R s s (Ok x)
still R s x same = record {
  ran = λ clean on. record { ready = λ has. has; changes = λ has. same _ };
  kept = λ clean on. (record { was_open = λ h. h; committed = λ _. refl }, on);
  survives = record { clean = omega arith; shield = λ h. h; counts = omega arith; limit = refl; closes = λ clean h. inl h; crash = λ clean db h. inl h };
}

-- ---- a whole transaction

abbrev pub begun : State → State
begun s = record s { in_transaction = true }

-- what is rolled back is what stood before
pub taken_back : (s0 s2 s3 : State) → (IsTrue s0.is_open → s0.now ≡ s0.committed) → KeepsCommit (begun s0) s2 → IsRolledBack s2 s3 → IsTrue s3.is_open → IsTrue s0.is_open × (s3.now ≡ s0.now)
taken_back s0 s2 s3 settled kept undone is_open =
    let was = undone.was_open is_open in
    (kept.was_open was, (undone.undone is_open).0 ∙ (kept.committed was ∙ sym (settled (kept.was_open was))))

on_err : {A E : Type 0} (r : Result A E) (P : Type 0) → P → OnErr r P
on_err (Ok a) P p = tt
on_err (Err e) P p = p

-- a commit that failed left what stood before
not_committed : (s0 s2 s3 : State) (r : Result (Unit {0}) Error) → (IsTrue s0.is_open → s0.now ≡ s0.committed) → KeepsCommit (begun s0) s2 → IsTrue s2.in_transaction
    → IfErr r (FailsToCommit s2 s3) → IsTrue s3.is_open → OnErr r (IsTrue s0.is_open × (s3.now ≡ s0.now))
not_committed s0 s2 s3 (Ok _) settled kept on h is_open = tt
not_committed s0 s2 s3 (Err e) settled kept on (inl failed) is_open = taken_back s0 s2 s3 settled kept failed.3 is_open
not_committed s0 s2 s3 (Err e) settled kept on (inr late) is_open = absurd (let f = late.1 in cc)

pub survives_from : (s0 s3 : State) (P : Trees → Type 0) → Survives (begun s0) s3 P → Survives s0 s3 P
survives_from s0 s3 P s = record { clean = s.clean; shield = s.shield; counts = s.counts; limit = s.limit; closes = s.closes; crash = s.crash }

module _ {X : Type 0} (R : Database → Database → Type 0) (s0 s2 s3 : State) (settled : IsTrue s0.is_open → s0.now ≡ s0.committed) (open_clean : IsTrue s3.is_open → HasCleanDisk s3) where
  -- a statement failed, and what was written is rolled back
  pub failed : {Y : Type 0} (e f : Error) → Within {X = X} R (begun s0) s2 (Err e) → (HasCleanDisk s3 → IsRolledBack s2 s3) → Survives s2 s3 (λ _. ⊥) → Transacts {X = Y} R s0 s3 (Err f)
  failed e f inside undone last = record {
    done = λ _. tt;
    undone = λ is_open.
        let clean = open_clean is_open in
        taken_back s0 s2 s3 settled (inside.kept (omega (arith, last.clean, clean)) refl).0 (undone clean) is_open;
    survives = survives_from s0 s3 _ (survives_then (begun s0) s2 s3 _ _ _ (λ _ db h. absurd h) (λ _ db h. absurd h) inside.survives last);
  }

  -- all was written, and the commit ended so
  pub ended : (x : X) (r : Result (Unit {0}) Error) → Within R (begun s0) s2 (Ok x) → (HasCleanDisk s2 → IsTrue s2.is_open)
      → (HasCleanDisk s3 → OnOk r (IsTrue s2.in_transaction × Shows s2 s3 s2.now s2.now false × KeepsCounts s2 s3 × (s3.marks ≡ [])))
      → (HasCleanDisk s3 → IfErr r (FailsToCommit s2 s3)) → Survives s2 s3 (λ db. db ≡ s2.now.trees) → Transacts R s0 s3 r
  ended x r inside opened ok err last = record {
    done = λ clean. by_result r (ok clean) (inside.ran (clean_before last clean) refl) (inside.kept (clean_before last clean) refl).0;
    undone = λ is_open.
        let clean = open_clean is_open in
        let kept = inside.kept (clean_before last clean) refl in
        not_committed s0 s2 s3 r settled kept.0 kept.1 (err clean) is_open;
    survives = survives_from s0 s3 _ (survives_then (begun s0) s2 s3 _ _ _ (λ _ db h. absurd h)
        (λ clean db is. ((inside.kept (clean_before last clean) refl).0.was_open (opened (clean_before last clean)), (s2.now, is, inside.ran (clean_before last clean) refl))) inside.survives last);
  }
    where
      by_result : (r : Result (Unit {0}) Error) → OnOk r (IsTrue s2.in_transaction × Shows s2 s3 s2.now s2.now false × KeepsCounts s2 s3 × (s3.marks ≡ [])) → R s0.now s2.now
          → KeepsCommit (begun s0) s2 → OnOk r (IsTrue s0.is_open × IsTrue s3.is_open × R s0.now s3.now)
      by_result (Err e) h it kept = tt
      by_result (Ok u) h it kept = let shown = h.1 in (kept.was_open shown.was_open, shown.is_open, subst (R s0.now) (sym shown.now_is) it)

-- ---- queries

-- what the first gives, where the second did well
abbrev pub Follows : {X : Type 0} → X → Result (Unit {0}) Error → Result X Error → Type 0
Follows x (Ok u) q = q ≡ Ok x
Follows x (Err e) q = (f : Error) × (q ≡ Err f)

pub fails_keeps : (sql : List ℕ) (params : Row) (old new : State) (e : Error) → FailsToQuery sql params old new e → IsUnchanged old new ⊎ IsRolledBack old new
unfolding FailsToQuery IsNotRun
fails_keeps sql params old new e (inl (inl none)) = inl none.1
fails_keeps sql params old new e (inl (inr fails)) = inr fails.3
fails_keeps sql params old new e (inr ran) = by_returning ran.0.returning ran.2
  where
    by_returning : (o : Option Returning) → FailsToShow old new sql ran.0 (timed params ran.0.formats ran.1.now) e o → IsUnchanged old new ⊎ IsRolledBack old new
    by_returning None h = inl h.3
    by_returning (Some what) (inl h) = inl h.1
    by_returning (Some what) (inr fails) = inr fails.3

query_keeps : (sql : List ℕ) (params : Row) (old new : State) (rows : List Row) → IsTrue old.in_transaction → Shown sql params old new rows → KeepsCommit old new × IsTrue new.in_transaction
unfolding Shown
query_keeps sql params old new rows on h = by_returning h.0.returning h.2
  where
    by_returning : (o : Option Returning) → ShowsRows old new sql h.0 (timed params h.0.formats h.1.now) rows o → KeepsCommit old new × IsTrue new.in_transaction
    by_returning None it = let s = it.3.0 in (record { was_open = λ _. s.was_open; committed = λ _. s.committed_is }, s.mode ∙ on)
    by_returning (Some what) it = let s = it.1.shown in (record { was_open = λ _. s.was_open; committed = λ _. s.committed_is ∙ rw on refl }, s.mode ∙ on)

same_after : (sql : List ℕ) (params : Row) (old new : State) (rows : List Row) → IsPlain (understood old.now.schema sql) → Shown sql params old new rows → IsUnchanged old new
unfolding Shown
same_after sql params old new rows plain h = by_returning h.0.returning (subst IsPlain h.1.is plain).0 h.2
  where
    by_returning : (o : Option Returning) → o ≡ None → ShowsRows old new sql h.0 (timed params h.0.formats h.1.now) rows o → IsUnchanged old new
    by_returning None none it = it.3
    by_returning (Some what) none it = absurd (cc)

shown_open : (sql : List ℕ) (params : Row) (old new : State) (rows : List Row) → Shown sql params old new rows → IsTrue old.is_open
unfolding Shown
shown_open sql params old new rows h = by_returning h.0.returning h.2
  where
    by_returning : (o : Option Returning) → ShowsRows old new sql h.0 (timed params h.0.formats h.1.now) rows o → IsTrue old.is_open
    by_returning None it = it.3.0.was_open
    by_returning (Some what) it = it.1.shown.was_open

-- one query, of which is known what it finds
pub look : {X : Type 0} (view : X → List Row) (sql : List ℕ) (params : Row) (old new : State) (r : Result X Error) (Found : Trees → X → Type 0) → IsPlain (understood desk_schema sql)
    → ((x : X) → old.now.schema ≡ desk_schema → Shown sql params old new (view x) → Found old.now.trees x)
    → (HasCleanDisk new → IfOk r (λ x. Shown sql params old new (view x)))
    → (HasCleanDisk new → IfErr r (λ e. FailsToQuery sql params old new e ⊎ IsTooLate sql params old new e)) → Survives old new (λ _. ⊥) → Looks Found old new r
look {X} view sql params old new r Found plain finds ok err survives = record {
  found = λ clean on ready. by_found r (ok clean) ready;
  kept = λ clean on. by_kept r on (ok clean) (err clean);
  survives = survives;
}
  where
    by_found : (r : Result X Error) → IfOk r (λ x. Shown sql params old new (view x)) → IsDeskIfOpen old → IfOk r (λ x. (new.now ≡ old.now) × IsTrue new.is_open × Found old.now.trees x)
    by_found (Ok x) h ready =
        let it = ready (shown_open sql params old new (view x) h) in
        let same = same_after sql params old new (view x) (subst (λ s. IsPlain (understood s sql)) (sym it) plain) h in
        (same.0.now_is, same.0.is_open, finds x it h)
    by_found (Err e) h ready = tt

    by_kept : (r : Result X Error) → IsTrue old.in_transaction → IfOk r (λ x. Shown sql params old new (view x)) → IfErr r (λ e. FailsToQuery sql params old new e ⊎ IsTooLate sql params old new e) → KeepsCommit old new × OnOk r (IsTrue new.in_transaction)
    by_kept (Ok x) on h none = query_keeps sql params old new (view x) on h
    by_kept (Err e) on none (inl fails) = (kept_unchanged old new (fails_keeps sql params old new e fails), tt)
    by_kept (Err e) on none (inr late) = (kept_unchanged old new (inl late.5), tt)

module _ {X : Type 0} (Found : Trees → X → Type 0) (s0 s2 s3 : State) (settled : IsTrue s0.is_open → s0.now ≡ s0.committed) (open_clean : IsTrue s3.is_open → HasCleanDisk s3) where
  -- a query failed
  pub look_failed : {Y : Type 0} (Told : Trees → Y → Type 0) (e f : Error) → Looks Found (begun s0) s2 (Err e) → (HasCleanDisk s3 → IsRolledBack s2 s3) → Survives s2 s3 (λ _. ⊥) → Serves Told s0 s3 (Err f)
  look_failed Told e f inside undone last = record {
    found = λ _ _. tt;
    undone = λ _ is_open.
        let clean = open_clean is_open in
        taken_back s0 s2 s3 settled (inside.kept (omega (arith, last.clean, clean)) refl).0 (undone clean) is_open;
    survives = λ _. survives_from s0 s3 _ (survives_then (begun s0) s2 s3 _ _ _ (λ _ db h. absurd h) (λ _ db h. absurd h) inside.survives last);
  }

  -- it was answered, and the transaction ended so
  pub look_ended : (x : X) (r : Result (Unit {0}) Error) → Looks Found (begun s0) s2 (Ok x)
      → (HasCleanDisk s3 → OnOk r (IsTrue s2.in_transaction × Shows s2 s3 s2.now s2.now false × KeepsCounts s2 s3 × (s3.marks ≡ [])))
      → (HasCleanDisk s3 → IfErr r (FailsToCommit s2 s3)) → Survives s2 s3 (λ db. db ≡ s2.now.trees) → (q : Result X Error) → Follows x r q → Serves Found s0 s3 q
  look_ended x r inside ok err last q follows = record {
    found = λ clean ready. by_found r q follows (ok clean) (inside.found (clean_before last clean) refl ready) (inside.kept (clean_before last clean) refl).0;
    undone = λ _ is_open.
        let clean = open_clean is_open in
        let kept = inside.kept (clean_before last clean) refl in
        by_undone r q follows (not_committed s0 s2 s3 r settled kept.0 kept.1 (err clean) is_open);
    survives = λ ready. survives_from s0 s3 _ (survives_then (begun s0) s2 s3 _ _ _ (λ _ db h. absurd h)
        (λ clean db is.
        let it = inside.found (clean_before last clean) refl ready in
        ((inside.kept (clean_before last clean) refl).0.was_open it.1, is ∙ ap (λ (d : Database). d.trees) it.0))
        inside.survives last);
  }
    where
      by_found : (r : Result (Unit {0}) Error) (q : Result X Error) → Follows x r q → OnOk r (IsTrue s2.in_transaction × Shows s2 s3 s2.now s2.now false × KeepsCounts s2 s3 × (s3.marks ≡ []))
          → (s2.now ≡ s0.now) × IsTrue s2.is_open × Found s0.now.trees x → KeepsCommit (begun s0) s2 → IfOk q (λ y. IsTrue s0.is_open × IsTrue s3.is_open × (s3.now ≡ s0.now) × Found s0.now.trees y)
      by_found (Ok u) q is ok it kept = rw is (kept.was_open it.1, ok.1.is_open, ok.1.now_is ∙ it.0, it.2)
      by_found (Err e) q is ok it kept = rw is.1 tt

      by_undone : (r : Result (Unit {0}) Error) (q : Result X Error) → Follows x r q → OnErr r (IsTrue s0.is_open × (s3.now ≡ s0.now)) → OnErr q (IsTrue s0.is_open × (s3.now ≡ s0.now))
      by_undone (Ok u) q is h = rw is tt
      by_undone (Err e) q is h = rw is.1 h

-- what was found is read
pub read_on : {X Y : Type 0} (Found : Trees → X → Type 0) (Told : Trees → Y → Type 0) (s0 s3 : State) (open_clean : IsTrue s3.is_open → HasCleanDisk s3) (x : X) (r : Result Y Error)
    → Serves Found s0 s3 (Ok x) → IfOk r (λ y. (db : Trees) → Found db x → Told db y) → Serves Told s0 s3 r
read_on Found Told s0 s3 open_clean x (Ok y) it told = record {
  found = λ clean ready. let f = it.found clean ready in (f.0, f.1, f.2, told _ f.3);
  undone = λ _ _. tt;
  survives = it.survives;
}
read_on Found Told s0 s3 open_clean x (Err e) it told = record {
  found = λ _ _. tt;
  undone = λ ready is_open. let f = it.found (open_clean is_open) ready in (f.0, f.2);
  survives = it.survives;
}
