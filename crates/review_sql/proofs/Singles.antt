-- The tables whose rows are counted have one row at each key, since their keys are UNIQUE.
use Rattle.review_sql_tables.proofs.Common.{◌≡◌, ◌≤◌, ◌&&◌, true, sym, ℤ, ℕ, pos, List, [], ◌∷◌, length, refl, subst, inl, inr, and_parts, and_from, is_eq, Database, keys_are_unique, IsSound, agree, differ, Trees, rowid, plain, first_key, column, value_cmp, Value, Int, Text, has_key, is_value, AreApart, desk_schema, IsReady, rows_at}
use Rattle.review_sql_tables.proofs.{Keys.int_is, Single.equal_values, Single.differ_ids, Single.one_passes}
use Rattle.review_sql_tables.specs.Desk.{projects_2 as project_table, bases as base_table}
use Rattle.review_sql_records.proofs.Common.{itself, PlaceKey, projects}
use Rattle.{review_sql_records.specs.Forms.bases, review_sql_writes.specs.Commits.AreSingle}

-- a value that is a whole number equals it
equal_whole : (v : Value) (n : ℤ) → is_value v (Int n) ≡ true → is_eq (value_cmp v (Int n)) ≡ true
equal_whole v n has = subst (λ w. is_eq (value_cmp w (Int n)) ≡ true) (sym (int_is v n has)) (itself (Int n))

module _ (db : Trees) (sound : IsSound desk_schema db) where
  project_single : (p : List ℕ) → AreApart (db 26) → length (rows_at (projects.at p) (db 26)) ≤ 1
  unfolding first_key
  project_single p apart =
      one_passes (has_key (projects.at p)) (λ other row. agree plain (1 ∷ []) other (1 ∷ []) row && differ (rowid other) (rowid row)) (db 26)
      (λ row has. keys_are_unique desk_schema db project_table 0 (1 ∷ []) row sound (inr (inr (inr (inr (inr (inr (inr (inr (inr (inr (inl refl))))))))))) refl has)
      (λ r s keyed too other is it. and_from _ _ (and_from _ _ (equal_values (Text p) (column s 1) (column r 1) refl (and_parts _ _ it).0 (and_parts _ _ is).0) refl) (differ_ids s r too keyed other))
      (db 26) (λ x h. h) apart

  base_single : (k : PlaceKey) → AreApart (db 6) → length (rows_at (bases.at k) (db 6)) ≤ 1
  unfolding first_key
  base_single k apart =
      one_passes (has_key (bases.at k)) (λ other row. agree plain (1 ∷ 2 ∷ 3 ∷ []) other (1 ∷ 2 ∷ 3 ∷ []) row && differ (rowid other) (rowid row)) (db 6)
      (λ row has. keys_are_unique desk_schema db base_table 0 (1 ∷ 2 ∷ 3 ∷ []) row sound (inr (inr (inl refl))) refl has)
      (λ r s keyed too other is it.
      let a = and_parts _ _ is in
      let b = and_parts _ _ it in
      let c = and_parts _ _ a.1 in
      let d = and_parts _ _ b.1 in
      let e = and_parts _ _ c.1 in
      let f = and_parts _ _ d.1 in
      and_from _ _ (and_from _ _ (equal_values (Text k.project) (column s 1) (column r 1) refl b.0 a.0) (and_from _ _ (equal_values (Text k.branch) (column s 2) (column r 2) refl d.0 c.0) (and_from _ _ (equal_values (Int (pos k.place)) (column s 3) (column r 3) refl (equal_whole (column s 3) (pos k.place) f.0) (equal_whole (column r 3) (pos k.place) e.0)) refl)))
      (differ_ids s r too keyed other))
      (db 6) (λ x h. h) apart

pub are_single : (db : Database) → IsReady db → IsSound db.schema db.trees → AreSingle db.trees
are_single db ready sound =
    let ours = subst (λ s. IsSound s db.trees) ready.schema sound in
    record { projects_are = λ p. project_single db.trees ours p (ready.apart 26 refl); bases_are = λ k. base_single db.trees ours k (ready.apart 6 refl) }
