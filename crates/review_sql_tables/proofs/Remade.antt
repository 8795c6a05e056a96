-- Rows that are taken out of a tree and put in again, each as another.
use Rattle.std.proofs.lemmas.List.{nil_from_length}
use Rattle.review_sql_tables.proofs.Common.{◌≡◌, ◌∙◌, ℤ, ℕ, List, [], ◌∷◌, map, filter, length, Bool, true, false, not, refl, sym, ap, subst, inl, inr, IsTrue, arith, cases_Bool, AllByRecursion, filter-filter, put_all, are_fresh, numbered, Given, rowid, put_row, Trees, is_int, Row, Value, has_key, AreApart, IsAdded, Remakes, SparesOthers}
use Rattle.review_sql_tables.proofs.{Lists.added, Lists.id_of, Moves.free_first}

-- rows that have rowids keep them
pub numbered_given : (sources rows : List Row) → numbered Given rows sources ≡ sources
numbered_given [] rows = refl
numbered_given (s ∷ sources) rows = ap (λ l. s ∷ l) (numbered_given sources (put_row s rows))

-- what passes no test of the new rows is as it was
put_beside : (p : Row → Bool) (news rows : List Row) → are_fresh rows news ≡ true → AllByRecursion (λ n. p n ≡ false) news → filter p (put_all rows news) ≡ filter p rows
put_beside p [] rows fresh all = refl
put_beside p (n ∷ news) rows fresh all = let it = free_first rows news n fresh in put_beside p news (put_row n rows) it.1 all.1 ∙ (added n rows it.0).other p all.0

none_of_both : (p : Row → Bool) (rows : List Row) → filter p (filter (λ r. not (p r)) rows) ≡ []
none_of_both p [] = refl
none_of_both p (r ∷ rows) = elim (cases_Bool (p r)) [ inl is ↦ rw is (none_of_both p rows) | inr apart ↦ rw (apart, apart) (none_of_both p rows) ]

pub all_to_map : {A B : Type 0} (P : B → Type 0) (f : A → B) (xs : List A) → AllByRecursion (λ x. P (f x)) xs → AllByRecursion P (map f xs)
all_to_map P f [] all = tt
all_to_map P f (x ∷ xs) all = (all.0, all_to_map P f xs all.1)

module _ (key : List (ℕ × Value)) (stored : ℤ → Row) (keyed : (id : ℤ) → has_key key (stored id) ≡ true) where
  -- each is such a row
  abbrev pub AreStored : List Row → Type 0
  AreStored news = AllByRecursion (λ n. (id : ℤ) × (n ≡ stored id)) news

  have_key : (news : List Row) → AreStored news → AllByRecursion (λ n. not (has_key key n) ≡ false) news
  have_key [] all = tt
  have_key (n ∷ news) all = (ap not (ap (has_key key) all.0.1 ∙ keyed all.0.0), have_key news all.1)

  single : (news rows : List Row) → AreStored news → are_fresh rows news ≡ true → length news ≡ 1 → (id : ℤ) × IsAdded (stored id) rows (put_all rows news)
  single [] rows all fresh one = absurd (omega (arith, one))
  single (n ∷ []) rows all fresh one = let free = (free_first rows [] n fresh).0 in (all.0.0, subst (λ r. IsAdded r rows (put_row n rows)) all.0.1 (added n rows free))
  single (n ∷ m ∷ news) rows all fresh one = absurd (omega (arith, one))

  pub remade : (tree : ℕ) (old new : Trees) (news : List Row) (count : ℕ) → count ≡ length news → AreStored news → are_fresh (filter (λ r. not (has_key key r)) (old tree)) news ≡ true
      → new tree ≡ put_all (filter (λ r. not (has_key key r)) (old tree)) news → SparesOthers tree old new → Remakes tree key stored count old new
  remade tree old new news count many all fresh is others =
      let p = λ (r : Row). not (has_key key r) in
      let left = filter p (old tree) in record {
        none = λ zero. ap (filter (has_key key)) (is ∙ ap (put_all left) (nil_from_length news (sym many ∙ zero))) ∙ none_of_both (has_key key) (old tree);
        one = λ one. let it = single news left all fresh (sym many ∙ one) in (it.0, subst (IsAdded (stored it.0) left) (sym is) it.1);
        apart = ap (filter p) is ∙ (put_beside p news left fresh (have_key news all) ∙ filter-filter p p (λ r h. h) (old tree));
        others = others;
      }

-- the rows that a query shows of those of a key become such rows
module _ (show : Row → Row) (become : Row → Row) (key : List (ℕ × Value)) (stored : ℤ → Row)
    (becomes : (r : Row) → has_key key r ≡ true → IsTrue (is_int (rowid r)) → become (show r) ≡ stored (id_of r)) where
  pub all_become : (rows : List Row) → AreApart rows → AllByRecursion (λ s. (id : ℤ) × (become s ≡ stored id)) (map show (filter (has_key key) rows))
  all_become [] apart = tt
  all_become (r ∷ rows) apart = elim (cases_Bool (has_key key r)) [
    | inl is ↦ rw is ((id_of r, becomes r is apart.0), all_become rows apart.2)
    | inr other ↦ rw other (all_become rows apart.2)
  ]
