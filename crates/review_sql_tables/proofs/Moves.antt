-- What INSERT with a SELECT of all rows of another table does, and what DROP TABLE does.
use Rattle.std.proofs.lemmas.List.Sorted.{IsPermutation-refl, IsPermutation-cons, IsPermutation-middle, IsPermutation-append_right}
use Rattle.sqlite_rules.specs.Edit.{with_rowid, is_chosen}
use Rattle.review_sql_tables.proofs.Common.{◌≡◌, ◌∙◌, true, false, List, [], ◌∷◌, ◌++◌, map, append-nil, Ordering, Less, Equal, Greater, refl, ap, subst, or_parts, and_parts, not-true, IsPermutation-trans, IsPermutation-sym, IsPermutation, is_eq, match_ordering, is_taken, put_all, are_fresh, have_rowids, numbered, Chosen, rowid, put_row, Row, value_cmp, AreApart, columns_of}
use Rattle.review_sql_tables.proofs.Lists.{apart_put}

-- ---- rows put into a tree

-- a row that is put stands among the others
put_among : (row : Row) (rows : List Row) → is_taken rows row ≡ false → IsPermutation (row ∷ rows) (put_row row rows)
put_among row [] free = IsPermutation-refl (row ∷ [])
put_among row (r ∷ rows) free = go (value_cmp (rowid r) (rowid row)) (or_parts _ _ free).0 (put_among row rows (or_parts _ _ free).1)
  where
    go : (o : Ordering) → is_eq o ≡ false → IsPermutation (row ∷ rows) (put_row row rows) → IsPermutation (row ∷ r ∷ rows) (match_ordering o (r ∷ put_row row rows) (row ∷ rows) (row ∷ r ∷ rows))
    go Less apart more = IsPermutation-trans _ _ _ (IsPermutation-middle (row ∷ []) r rows) (IsPermutation-cons r _ _ more)
    go Equal apart more = absurd (cc)
    go Greater apart more = IsPermutation-refl _

pub free_first : (rows news : List Row) (r : Row) → are_fresh rows (r ∷ news) ≡ true → (is_taken rows r ≡ false) × (are_fresh (put_row r rows) news ≡ true)
free_first rows news r fresh = let parts = and_parts _ _ fresh in (not-true _ parts.0, parts.1)

-- so do many
all_among : (news rows : List Row) → are_fresh rows news ≡ true → IsPermutation (news ++ rows) (put_all rows news)
all_among [] rows fresh = IsPermutation-refl rows
all_among (r ∷ news) rows fresh =
    let it = free_first rows news r fresh in
    IsPermutation-trans _ _ _ (IsPermutation-sym _ _ (IsPermutation-middle news r rows)) (IsPermutation-trans _ _ _ (IsPermutation-append_right news _ _ (put_among r rows it.0)) (all_among news (put_row r rows) it.1))

-- and rowids stay apart
pub apart_all : (news rows : List Row) → have_rowids news ≡ true → are_fresh rows news ≡ true → AreApart rows → AreApart (put_all rows news)
apart_all [] rows keyed fresh all = all
apart_all (r ∷ news) rows keyed fresh all =
    let it = free_first rows news r fresh in
    let ids = and_parts _ _ keyed in
    apart_all news (put_row r rows) ids.1 it.1 (apart_put r rows ids.0 it.0 all)

-- a chosen rowid changes no column
same_columns : (rows : List Row) (r : Row) → columns_of (with_rowid Chosen rows r) ≡ columns_of r
same_columns rows r = elim (is_chosen Chosen (rowid r)) as (λ b. columns_of (Rattle.std.proofs.Common.cond b (Rattle.sqlite_value.specs.declared.value.Value.TheVariants.Int (Rattle.sqlite_rules.specs.Edit.next_rowid rows) ∷ Rattle.std.proofs.Common.drop 1 r) r) ≡ columns_of r) [ true ↦ refl | false ↦ refl ]

numbered_columns : (news rows : List Row) → map columns_of (numbered Chosen rows news) ≡ map columns_of news
numbered_columns [] rows = refl
numbered_columns (r ∷ news) rows = rw (same_columns rows r, numbered_columns news (put_row (with_rowid Chosen rows r) rows)) refl

-- rows that get rowids in an empty tree have their columns there, in some order
pub put_in_empty : (sources news : List Row) → news ≡ numbered Chosen [] sources → are_fresh [] news ≡ true → IsPermutation (map columns_of sources) (map columns_of (put_all [] news))
put_in_empty sources news is fresh =
    subst (λ l. IsPermutation l (map columns_of (put_all [] news))) (ap (map columns_of) (append-nil news ∙ is) ∙ numbered_columns sources []) (Rattle.std.proofs.lemmas.List.Sorted.IsPermutation-map columns_of _ _ (all_among news [] fresh))
