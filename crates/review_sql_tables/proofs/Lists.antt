-- Rows put into a tree, and taken out.
use Rattle.std.proofs.lemmas.List.Sorted.{list_any-IsPermutation}
use Rattle.sqlite_trees.specs.Tree.{without_rowid, has_rowid}
use Rattle.review_sql_tables.proofs.Common.{sym, ◌≡◌, ◌∙◌, ℤ, ◌+◌, List, [], ◌∷◌, map, filter, length, Bool, ◌||◌, true, false, not, cond, Ordering, Less, Equal, Greater, refl, ap, IsTrue, arith, inl, inr, or_parts, cases_Bool, tied_itself, AllByRecursion, list_any, IsPermutation, is_eq, match_ordering, ordering_reverse, filter_same, int_is, id_in, is_taken, without_all, rowid, put_row, is_int, value_cmp_total, Row, value_cmp, Value, AreApart, IsAdded}

module _ (new : Row) (p : Row → Bool) where
  abbrev Put : Ordering → Row → List Row → List Row
  Put o r rows = match_ordering o (r ∷ put_row new rows) (new ∷ rows) (new ∷ r ∷ rows)

  put_other : (rows : List Row) → is_taken rows new ≡ false → p new ≡ false → filter p (put_row new rows) ≡ filter p rows
  put_other [] free not_it = rw not_it
  put_other (r ∷ rows) free not_it = go (value_cmp (rowid r) (rowid new)) (or_parts _ _ free).0 (put_other rows (or_parts _ _ free).1 not_it)
    where
      go : (o : Ordering) → is_eq o ≡ false → filter p (put_row new rows) ≡ filter p rows → filter p (Put o r rows) ≡ filter p (r ∷ rows)
      go Less apart more = ap (λ l. cond (p r) (r ∷ l) l) more
      go Equal apart more = absurd (cc)
      go Greater apart more = rw not_it

  put_count : (rows : List Row) → is_taken rows new ≡ false → p new ≡ true → length (filter p (put_row new rows)) ≡ length (filter p rows) + 1
  put_count [] free it = rw it
  put_count (r ∷ rows) free it = go (value_cmp (rowid r) (rowid new)) (or_parts _ _ free).0 (put_count rows (or_parts _ _ free).1 it)
    where
      one : (b : Bool) → length (filter p (put_row new rows)) ≡ length (filter p rows) + 1 → length (cond b (r ∷ filter p (put_row new rows)) (filter p (put_row new rows))) ≡ length (cond b (r ∷ filter p rows) (filter p rows)) + 1
      one true more = omega (arith, more)
      one false more = more

      go : (o : Ordering) → is_eq o ≡ false → length (filter p (put_row new rows)) ≡ length (filter p rows) + 1 → length (filter p (Put o r rows)) ≡ length (filter p (r ∷ rows)) + 1
      go Less apart more = one (p r) more
      go Equal apart more = absurd (cc)
      go Greater apart more = rw it (omega arith)

  none_here : (r : Row) (rows : List Row) → filter p (r ∷ rows) ≡ [] → (p r ≡ false) × (filter p rows ≡ [])
  none_here r rows h = elim (cases_Bool (p r)) [ inl is ↦ absurd (let e = rw is at h in cc) | inr apart ↦ (apart, rw apart at h) ]

  put_first : (rows : List Row) → is_taken rows new ≡ false → p new ≡ true → filter p rows ≡ [] → filter p (put_row new rows) ≡ new ∷ []
  put_first [] free it none = rw it
  put_first (r ∷ rows) free it none =
      let here = none_here r rows none in
      go (value_cmp (rowid r) (rowid new)) (or_parts _ _ free).0 here (put_first rows (or_parts _ _ free).1 it here.1)
    where
      go : (o : Ordering) → is_eq o ≡ false → (p r ≡ false) × (filter p rows ≡ []) → filter p (put_row new rows) ≡ new ∷ [] → filter p (Put o r rows) ≡ new ∷ []
      go Less apart none more = rw none.0 more
      go Equal apart none more = absurd (cc)
      go Greater apart none more = rw (it, none.0, none.1)

pub added : (row : Row) (rows : List Row) → is_taken rows row ≡ false → IsAdded row rows (put_row row rows)
added row rows free = record {
  other = λ p no. put_other row p rows free no;
  first = λ p is none. put_first row p rows free is none;
  count = λ p is. put_count row p rows free is;
}

is_eq_back : (o : Ordering) → is_eq (ordering_reverse o) ≡ is_eq o
is_eq_back Less = refl
is_eq_back _ = refl

pub eq_back : (v w : Value) → is_eq (value_cmp v w) ≡ is_eq (value_cmp w v)
eq_back v w = ap is_eq (value_cmp_total.antisymm v w) ∙ is_eq_back (value_cmp w v)

either_false : (b c : Bool) → b ≡ false → c ≡ false → (b || c) ≡ false
either_false b c p q = rw (p, q) refl

-- a row whose rowid neither the new row nor one of the others has
still_free : (r new : Row) (rows : List Row) → is_taken rows r ≡ false → is_eq (value_cmp (rowid new) (rowid r)) ≡ false → is_taken (put_row new rows) r ≡ false
still_free r new [] free apart = either_false _ _ apart refl
still_free r new (x ∷ rows) free apart = go (value_cmp (rowid x) (rowid new)) (still_free r new rows (or_parts _ _ free).1 apart)
  where
    go : (o : Ordering) → is_taken (put_row new rows) r ≡ false → is_taken (match_ordering o (x ∷ put_row new rows) (new ∷ rows) (new ∷ x ∷ rows)) r ≡ false
    go Less more = either_false _ _ (or_parts _ _ free).0 more
    go Equal more = either_false _ _ apart (or_parts _ _ free).1
    go Greater more = either_false _ _ apart free

pub apart_put : (row : Row) (rows : List Row) → IsTrue (is_int (rowid row)) → is_taken rows row ≡ false → AreApart rows → AreApart (put_row row rows)
apart_put row [] keyed free all = (keyed, refl, tt)
apart_put row (r ∷ rows) keyed free all = go (value_cmp (rowid r) (rowid row)) (or_parts _ _ free).0 (apart_put row rows keyed (or_parts _ _ free).1 all.2)
  where
    go : (o : Ordering) → is_eq o ≡ false → AreApart (put_row row rows) → AreApart (match_ordering o (r ∷ put_row row rows) (row ∷ rows) (row ∷ r ∷ rows))
    go Less other more = (all.0, still_free r row rows all.1 (eq_back (rowid row) (rowid r) ∙ (or_parts _ _ free).0), more)
    go Equal other more = absurd (cc)
    go Greater other more = (keyed, free, all)

free_filter : (p : Row → Bool) (r : Row) (rows : List Row) → is_taken rows r ≡ false → is_taken (filter p rows) r ≡ false
free_filter p r [] free = refl
free_filter p r (x ∷ rows) free = elim (p x) as (λ b. is_taken (cond b (x ∷ filter p rows) (filter p rows)) r ≡ false) [
  | true ↦ either_false _ _ (or_parts _ _ free).0 (free_filter p r rows (or_parts _ _ free).1)
  | false ↦ free_filter p r rows (or_parts _ _ free).1
]

pub apart_filter : (p : Row → Bool) (rows : List Row) → AreApart rows → AreApart (filter p rows)
apart_filter p [] all = tt
apart_filter p (r ∷ rows) all = elim (p r) as (λ b. AreApart (cond b (r ∷ filter p rows) (filter p rows))) [
  | true ↦ (all.0, free_filter p r rows all.1, apart_filter p rows all.2)
  | false ↦ apart_filter p rows all.2
]

abbrev pub id_of : Row → ℤ
id_of r = id_in (rowid r)

-- whether one of these is the rowid
abbrev has_one : List ℤ → Row → Bool
has_one ids r = list_any (λ id. has_rowid id r) ids

has_own : (r : Row) → IsTrue (is_int (rowid r)) → has_rowid (id_of r) r ≡ true
has_own r keyed = ap (λ v. is_eq (value_cmp (rowid r) v)) (sym (int_is (rowid r) keyed)) ∙ ap is_eq (tied_itself value_cmp_total (rowid r))

has_others : (x r : Row) → IsTrue (is_int (rowid x)) → is_eq (value_cmp (rowid x) (rowid r)) ≡ false → has_rowid (id_of x) r ≡ false
has_others x r keyed apart = ap (λ v. is_eq (value_cmp (rowid r) v)) (sym (int_is (rowid x) keyed)) ∙ (eq_back (rowid r) (rowid x) ∙ apart)

none_has : (p : Row → Bool) (r : Row) (rows : List Row) → AreApart rows → is_taken rows r ≡ false → has_one (map id_of (filter p rows)) r ≡ false
none_has p r [] all free = refl
none_has p r (x ∷ rows) all free = elim (p x) as (λ b. has_one (map id_of (cond b (x ∷ filter p rows) (filter p rows))) r ≡ false) [
  | true ↦ either_false _ _ (has_others x r all.0 (or_parts _ _ free).0) (none_has p r rows all.2 (or_parts _ _ free).1)
  | false ↦ none_has p r rows all.2 (or_parts _ _ free).1
]

-- the rowid of a row is among those of the rows that pass where the row passes
passing : (p : Row → Bool) (rows : List Row) → AreApart rows → AllByRecursion (λ r. has_one (map id_of (filter p rows)) r ≡ p r) rows
passing p [] all = tt
passing p (r ∷ rows) all = (head (p r), whole (p r) (passing p rows all.2))
  where
    more : (xs : List Row) → is_taken xs r ≡ false → AllByRecursion (λ x. has_one (map id_of (filter p rows)) x ≡ p x) xs → AllByRecursion (λ x. has_one (id_of r ∷ map id_of (filter p rows)) x ≡ p x) xs
    more [] free it = tt
    more (x ∷ xs) free it = (ap (λ b. b || has_one (map id_of (filter p rows)) x) (has_others r x all.0 (eq_back (rowid r) (rowid x) ∙ (or_parts _ _ free).0)) ∙ it.0, more xs (or_parts _ _ free).1 it.1)

    mine : Bool → List ℤ
    mine b = map id_of (cond b (r ∷ filter p rows) (filter p rows))

    head : (b : Bool) → has_one (mine b) r ≡ b
    head true = ap (λ b. b || has_one (map id_of (filter p rows)) r) (has_own r all.0)
    head false = none_has p r rows all.2 all.1

    whole : (b : Bool) → AllByRecursion (λ x. has_one (map id_of (filter p rows)) x ≡ p x) rows → AllByRecursion (λ x. has_one (mine b) x ≡ p x) rows
    whole true rest = more rows all.1 rest
    whole false rest = rest

filter_on : (p q : Row → Bool) (xs : List Row) → AllByRecursion (λ x. p x ≡ q x) xs → filter (λ x. not (p x)) xs ≡ filter (λ x. not (q x)) xs
filter_on p q [] all = refl
filter_on p q (x ∷ xs) all = rw (all.0, filter_on p q xs all.1) refl

without_is : (ids : List ℤ) (rows : List Row) → without_all rows ids ≡ filter (λ r. not (list_any (λ id. has_rowid id r) ids)) rows
without_is [] [] = refl
without_is [] (r ∷ rows) = ap (λ l. r ∷ l) (without_is [] rows)
without_is (id ∷ ids) rows = without_is ids (without_rowid id rows) ∙ both rows
  where
    both : (xs : List Row) → filter (λ r. not (list_any (λ i. has_rowid i r) ids)) (without_rowid id xs) ≡ filter (λ r. not (list_any (λ i. has_rowid i r) (id ∷ ids))) xs
    both [] = refl
    both (x ∷ xs) = elim (cases_Bool (has_rowid id x)) [
      | inl is ↦ rw is (both xs)
      | inr apart ↦ rw apart (ap (λ l. cond (not (list_any (λ i. has_rowid i x) ids)) (x ∷ l) l) (both xs))
    ]

-- what a DELETE takes out is what passed its test
pub removed : (p : Row → Bool) (rows : List Row) (ids : List ℤ) → AreApart rows → IsPermutation (map id_of (filter p rows)) ids → without_all rows ids ≡ filter (λ r. not (p r)) rows
removed p rows ids all same =
    let mine = map id_of (filter p rows) in
    without_is ids rows ∙ (filter_same _ _ (λ r. ap not (sym (list_any-IsPermutation (λ id. has_rowid id r) mine ids same))) rows ∙ filter_on (has_one mine) p rows (passing p rows all))
