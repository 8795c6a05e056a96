-- The patch set of a change that has the greatest number.
use Rattle.review_sql_tables.proofs.Common.{◌≡◌, ◌∙◌, ◌<◌, ℕ, pos, ◌&&◌, [], ◌∷◌, Bool, true, false, Option, Some, None, nat_le, filter, leb-true, leb-false, refl, sym, ap, subst, ⊎_elim, inl, arith, IsSome, Trees, Int, has_key, HasGreatest, only, reads, row_at, rows_at}
use Rattle.review_core_rules.specs.{Parts.APatch, Parts.PatchOf, declared.rows.PatchRow.PatchRow}
use Rattle.review_machine_rows.specs.Rows.{Row}
use Rattle.review_sql_records.proofs.Common.{is_within, most_patches, IsCurrent, IsLast, APart, PartKey, passed}
use Rattle.review_sql_change_records.specs.Forms.{patch_numbers, patches}
use Rattle.review_sql_lookups.proofs.Telling.{filter_both, last_none, last_some}
use Rattle.review_sql_lookups.specs.{Loads.IfTold, Tables.tables_at, Tables.told}
use Rattle.review_sql_change_lookups.specs.Joins.{TellsCurrent, IsLastSet, TellsIf}

two : (a b : Bool) → ((a && true) && (b && true)) ≡ (a && (b && true))
two true b = refl
two false b = refl

abbrev a_patch : PatchRow → Row
a_patch x = APart (APatch x)

patches_in : (db : Trees) (n m : ℕ) → (tables_at db).row (PartKey n (PatchOf m)) ≡ told (λ x. APart (APatch x)) (only (reads patches) (filter (has_key ((2, Int (pos m)) ∷ [])) (rows_at ((1, Int (pos n)) ∷ []) (db 11))))
patches_in db n m = ap (λ l. told (λ x. APart (APatch x)) (only (reads patches) l)) (sym (filter_both (has_key ((1, Int (pos n)) ∷ [])) (has_key ((2, Int (pos m)) ∷ [])) _ (λ r. two _ _) (db 11)))

pub last_set : (db : Trees) (n q : ℕ) → HasGreatest patch_numbers 2 n db (Some (Some q)) → IsLast (λ m. PartKey n (PatchOf m)) (tables_at db).row q
last_set db n q great =
    last_some (λ x. APart (APatch x)) (reads patches) (λ m. PartKey n (PatchOf m)) db 2 (rows_at (patch_numbers.at n) (db 11)) (patches_in db n) great.0 q great.1 (passed (is_within most_patches) _ q (sym great.2))

no_set : (db : Trees) (n : ℕ) → HasGreatest patch_numbers 2 n db None → IsLast (λ m. PartKey n (PatchOf m)) (tables_at db).row 0
no_set db n none = last_none (λ x. APart (APatch x)) (reads patches) (λ m. PartKey n (PatchOf m)) db 2 (rows_at (patch_numbers.at n) (db 11)) (patches_in db n) none

-- whether the greatest number is at most that of a patch set
pub last_told : (db : Trees) (n p q : ℕ) (b : Bool) → b ≡ nat_le q p → HasGreatest patch_numbers 2 n db (Some (Some q)) → TellsIf db (IsLastSet (n, p) db) (Some b)
last_told db n p q true is great = λ m less. (last_set db n q great).above m (let le = leb-true q p (sym is) in omega (arith, le, less))
last_told db n p q false is great = λ last.
    let greater : p < q = leb-false q p (sym is) in
    ⊎_elim (λ (zero : q ≡ 0). absurd (omega (arith, zero, greater)))
    (λ there. let f : false ≡ true = subst IsSome (last q greater) there in absurd (cc))
    (last_set db n q great).there

pub alone_told : (db : Trees) (n p : ℕ) → HasGreatest patch_numbers 2 n db None → IsLastSet (n, p) db
alone_told db n p none m less = (no_set db n none).above m (omega (arith, less))

-- the patch set with the greatest number is the current one
pub current_is : (db : Trees) (n q : ℕ) (found : Option (Option PatchRow)) (x : PatchRow) → HasGreatest patch_numbers 2 n db (Some (Some q)) → found ≡ row_at patches db (n, q) → found ≡ Some (Some x) → IsCurrent (tables_at db).row n x
current_is db n q found x great at some = record { number = q; sent = ap (told (λ x. APart (APatch x))) (sym at ∙ some); later = (last_set db n q great).above }

-- a change that has no patch set with the greatest number has none
pub no_sets : (db : Trees) (n : ℕ) → HasGreatest patch_numbers 2 n db None → (m : ℕ) → (tables_at db).row (PartKey n (PatchOf m)) ≡ None
no_sets db n none m = patches_in db n m ∙ ap (λ l. told a_patch (only (reads patches) (filter (has_key ((2, Int (pos m)) ∷ [])) l))) none

pub tells_current : (n : ℕ) (db : Trees) (found : Option PatchRow) → IfTold db (IsCurrent (tables_at db).row n) found → TellsCurrent n db found
tells_current n db None damaged = inl damaged
tells_current n db (Some patch) is = is
