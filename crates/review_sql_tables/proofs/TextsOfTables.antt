-- What the texts for each table of the list are understood as.
use Rattle.review_sql_tables.proofs.Common.{ℕ, zero, suc, ◌≡◌, ◌<◌, refl, arith, List, [], ◌∷◌, codes, map, drop, take, length, slice_index_or, understood, Table, everything, desk_tables, Asks, rows_where, table_at}
use Rattle.review_sql_tables.specs.declared.texts.TheConstants.{ROW_IDS}

infixr 2 ◌also◌
abbrev pub ◌also◌ : {A B : Type 0} → A → B → A × B
a also b = (a, b)

-- something holds of each text and its table
abbrev pub Pairs : (List ℕ → Table → Type 0) → List (List ℕ) → List Table → Type 0
Pairs P [] [] = Unit {0}
Pairs P [] (t ∷ tables) = ⊥
Pairs P (sql ∷ texts) [] = ⊥
Pairs P (sql ∷ texts) (t ∷ tables) = P sql t × Pairs P texts tables

pub pair_at : (P : List ℕ → Table → Type 0) (texts : List (List ℕ)) (tables : List Table) → Pairs P texts tables → (at : ℕ) (d : List ℕ) → at < length tables → (t : Table) × (take 1 (drop at tables) ≡ t ∷ []) × P (slice_index_or texts at d) t
pair_at P [] [] all at d low = absurd (omega (arith, low))
pair_at P [] (t ∷ tables) all at d low = absurd all
pair_at P (sql ∷ texts) [] all at d low = absurd all
pair_at P (sql ∷ texts) (t ∷ tables) all zero d low = (t, refl, all.0)
pair_at P (sql ∷ texts) (t ∷ tables) all (suc at) d low = pair_at P texts tables all.1 at d (omega (arith, low))

abbrev pub AsksIds : List ℕ → Table → Type 0
AsksIds sql t = Asks sql (rows_where t.tree [] (0 ∷ []))

ids_asked : Pairs AsksIds (map (λ t. t.now) ROW_IDS) desk_tables
unfolding understood everything
ids_asked =
    record { names = codes "number" ∷ []; is = refl; plain = (refl, refl); unlisted = refl } also
    record { names = codes "rowid" ∷ []; is = refl; plain = (refl, refl); unlisted = refl } also
    record { names = codes "rowid" ∷ []; is = refl; plain = (refl, refl); unlisted = refl } also
    record { names = codes "number" ∷ []; is = refl; plain = (refl, refl); unlisted = refl } also
    record { names = codes "rowid" ∷ []; is = refl; plain = (refl, refl); unlisted = refl } also
    record { names = codes "rowid" ∷ []; is = refl; plain = (refl, refl); unlisted = refl } also
    record { names = codes "rowid" ∷ []; is = refl; plain = (refl, refl); unlisted = refl } also
    record { names = codes "rowid" ∷ []; is = refl; plain = (refl, refl); unlisted = refl } also
    record { names = codes "rowid" ∷ []; is = refl; plain = (refl, refl); unlisted = refl } also
    record { names = codes "rowid" ∷ []; is = refl; plain = (refl, refl); unlisted = refl } also
    record { names = codes "rowid" ∷ []; is = refl; plain = (refl, refl); unlisted = refl } also
    record { names = codes "rowid" ∷ []; is = refl; plain = (refl, refl); unlisted = refl } also
    record { names = codes "rowid" ∷ []; is = refl; plain = (refl, refl); unlisted = refl } also
    tt

pub ids_at : (at : ℕ) (d : List ℕ) → at < 13 → (t : Table) × (table_at at ≡ t ∷ []) × AsksIds (slice_index_or (map (λ t. t.now) ROW_IDS) at d) t
ids_at at d low = pair_at AsksIds (map (λ t. t.now) ROW_IDS) desk_tables ids_asked at d low

-- a number below twelve is one of them
pub each_of_twelve : {P : Type 0} (n : ℕ) → n < 12 → (n ≡ 0 → P) → (n ≡ 1 → P) → (n ≡ 2 → P) → (n ≡ 3 → P) → (n ≡ 4 → P) → (n ≡ 5 → P) → (n ≡ 6 → P) → (n ≡ 7 → P) → (n ≡ 8 → P) → (n ≡ 9 → P) → (n ≡ 10 → P) → (n ≡ 11 → P) → P
each_of_twelve zero low a b c d f g h i j k l m = a refl
each_of_twelve (suc zero) low a b c d f g h i j k l m = b refl
each_of_twelve (suc (suc zero)) low a b c d f g h i j k l m = c refl
each_of_twelve (suc (suc (suc zero))) low a b c d f g h i j k l m = d refl
each_of_twelve (suc (suc (suc (suc zero)))) low a b c d f g h i j k l m = f refl
each_of_twelve (suc (suc (suc (suc (suc zero))))) low a b c d f g h i j k l m = g refl
each_of_twelve (suc (suc (suc (suc (suc (suc zero)))))) low a b c d f g h i j k l m = h refl
each_of_twelve (suc (suc (suc (suc (suc (suc (suc zero))))))) low a b c d f g h i j k l m = i refl
each_of_twelve (suc (suc (suc (suc (suc (suc (suc (suc zero)))))))) low a b c d f g h i j k l m = j refl
each_of_twelve (suc (suc (suc (suc (suc (suc (suc (suc (suc zero))))))))) low a b c d f g h i j k l m = k refl
each_of_twelve (suc (suc (suc (suc (suc (suc (suc (suc (suc (suc zero)))))))))) low a b c d f g h i j k l m = l refl
each_of_twelve (suc (suc (suc (suc (suc (suc (suc (suc (suc (suc (suc zero))))))))))) low a b c d f g h i j k l m = m refl
each_of_twelve (suc (suc (suc (suc (suc (suc (suc (suc (suc (suc (suc (suc n)))))))))))) low a b c d f g h i j k l m = absurd (omega (arith, low))
