-- Calls that write nothing.
use Rattle.sqlite.specs.State.{IsNoStatement}
use Rattle.sqlite.specs.declared.error.Error.TheVariants.{SqliteFailure, SqlInputError}
use Rattle.sqlite_resolve.specs.declared.error.CompileError.{CompileError}
use Rattle.sqlite_trees.specs.declared.error.StoreError.TheVariants.{Io, Corrupt, Full, Broken, Unstorable}
use Rattle.review_sql_tables.proofs.Common.{◌≡◌, ◌∙◌, inl, inr, List, ℕ, [], IsTrue, Ok, Err, Result, IfOk, IfErr, refl, sym, arith, survives_then, State, HasCleanDisk, Survives, IsUnchanged, IsRolledBack, IsNotRun, store_error, Error, StoreError, OutOfMemory, Row}
use Rattle.review_sql.specs.Shelf.{IsUnderstood, Stays}
use Rattle.sqlite.specs.declared.error.ErrorCode.TheVariants as code

module _ (old new : State) (settled : IsTrue old.is_open → old.now ≡ old.committed) where
  unchanged_stays : IsUnchanged old new → IsTrue old.is_open × (new.now ≡ old.now)
  unchanged_stays it = (it.0.was_open, it.0.now_is)

  undone_stays : IsRolledBack old new → IsTrue new.is_open → IsTrue old.is_open × (new.now ≡ old.now)
  undone_stays it is_open = let was = it.was_open is_open in (was, (it.undone is_open).0 ∙ sym (settled was))

  not_run : (sql : List ℕ) (params : Row) (e : Error) → IsNotRun old new sql params e → IsTrue new.is_open → IsTrue old.is_open × (new.now ≡ old.now)
  unfolding IsNotRun
  not_run sql params e (inl none) is_open = unchanged_stays none.1
  not_run sql params e (inr fails) is_open = undone_stays fails.3 is_open

  pub stays_prepared : {X : Type 0} (Q : X → Type 0) (sql : List ℕ) (r : Result X Error) → (IsTrue new.is_open → HasCleanDisk new) → (HasCleanDisk new → IfOk r (λ s. Q s × IsUnchanged old new))
      → (HasCleanDisk new → IfErr r (λ e. (params : Row) → IsNotRun old new sql params e)) → Survives old new (λ _. ⊥) → Stays old new
  stays_prepared {X} Q sql r clean ok err survives = record { kept = λ is_open. by_result r (ok (clean is_open)) (err (clean is_open)) is_open; survives = survives }
    where
      by_result : (r : Result X Error) → IfOk r (λ s. Q s × IsUnchanged old new) → IfErr r (λ e. (params : Row) → IsNotRun old new sql params e) → IsTrue new.is_open → IsTrue old.is_open × (new.now ≡ old.now)
      by_result (Ok x) good bad is_open = unchanged_stays good.1
      by_result (Err e) good bad is_open = not_run sql [] e (bad []) is_open

pub stays_then : (a b c : State) → Stays a b → Stays b c → Stays a c
stays_then a b c p q = record {
  kept = λ is_open. let more = q.kept is_open in let first = p.kept more.0 in (first.0, more.1 ∙ first.1);
  survives = survives_then a b c _ _ _ (λ _ db h. h) (λ _ db h. h) p.survives q.survives;
}

pub stays_still : (s : State) → Stays s s
stays_still s = record {
  kept = λ is_open. (is_open, refl);
  survives = record { clean = omega arith; shield = λ h. h; counts = omega arith; limit = refl; closes = λ clean h. inl h; crash = λ clean db h. inl h };
}

-- a store fault is no text that is not understood
no_store : (f : CompileError) (cause : StoreError) → SqlInputError f ≡ store_error cause → ⊥
no_store f OutOfMemory is = let e : SqlInputError f ≡ SqliteFailure code.OutOfMemory = is in cc
no_store f Io is = let e : SqlInputError f ≡ SqliteFailure code.SystemIoFailure = is in cc
no_store f Corrupt is = let e : SqlInputError f ≡ SqliteFailure code.DatabaseCorrupt = is in cc
no_store f Full is = let e : SqlInputError f ≡ SqliteFailure code.DiskFull = is in cc
no_store f Broken is = let e : SqlInputError f ≡ SqliteFailure code.Closed = is in cc
no_store f Unstorable is = let e : SqlInputError f ≡ SqliteFailure code.TooBig = is in cc

not_known : (s : State) (sql : List ℕ) (f : CompileError) → IsNoStatement s sql [] (SqlInputError f) → IsUnderstood s.now.schema sql → ⊥
not_known s sql f (inl bad) known = let e = sym bad.1 ∙ known.1 in cc
not_known s sql f (inr odd) known = elim odd.2 [
  | inl many ↦ let e = many.1 in cc
  | inr more ↦ elim more [ inl count ↦ (let e = count.1 in cc) | inr clock ↦ (let e = clock.1 in cc) ]
]

-- a text that was refused as one is not understood, and nothing was done
pub not_understood : (old new : State) (sql : List ℕ) (f : CompileError) → IsNotRun old new sql [] (SqlInputError f) → IsUnchanged old new × (IsUnderstood old.now.schema sql → ⊥)
unfolding IsNotRun
not_understood old new sql f (inl none) = (none.1, not_known old sql f none.0)
not_understood old new sql f (inr fails) = absurd (no_store f fails.0 fails.1)
