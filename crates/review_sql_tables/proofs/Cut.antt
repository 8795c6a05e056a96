-- What a query shows that is cut: the row with the greatest value of a column.
use Rattle.std.{proofs.Common.IsSorted, proofs.lemmas.Cmp.upto, proofs.lemmas.Cmp.on_total, specs.Cmp.IsTotalOrder}
use Rattle.sqlite_sql.{proofs.QueryLemmas.key_cmp_total, specs.Query.output_cmp}
use Rattle.review_sql_tables.proofs.Common.{◌≡◌, ◌∙◌, ℕ, suc, pos, List, [], ◌∷◌, false, Ordering, Less, Equal, Greater, refl, sym, ap, subst, subst₂, arith, map, filter, take, is_gt, is_lt, inl, inr, recursion_from_All, All-from_recursion, length_permutation, All-permutation, IsPermutation-sym, AllByRecursion, IsPermutation, ordering_reverse, ordering_then, reads_as, State, Shown, all_weaker, all_map, all_unmap, filter_same, map-map, Has, overlay, Query, IsAnswer, Output, output, Term, lit, col, Trees, Row, column, value_cmp, Null, Int, has_key, desk_schema, At, Asks, values_of, tests_from, over_table, last_where}
use Rattle.review_sql_tables.proofs.Meaning.{tested, plain, shows_columns}
use Rattle.review_sql_tables.proofs.Queries.{passes, shows, staged_is}
use Rattle.review_sql_tables.specs.{Texts.falling, inner.Words.ShowsGreatest}

-- ---- the first of rows in order is at most each

module _ {X : Type 0} (cmp : X → X → Ordering) (total : IsTotalOrder cmp) where
  abbrev AtMost : X → X → Type 0
  AtMost a b = is_gt (cmp a b) ≡ false

  turned : (o : Ordering) → is_lt o ≡ false → is_gt (ordering_reverse o) ≡ false
  turned Less h = h
  turned Equal h = refl
  turned Greater h = refl

  pub first_least : (x : X) (ys : List X) → IsSorted cmp (x ∷ ys) → AllByRecursion (AtMost x) ys
  first_least x [] sorted = tt
  first_least x (y ∷ ys) sorted =
      let first : AtMost x y = ap is_gt (total.antisymm x y) ∙ turned _ (sorted 0 x (omega arith) (omega arith)) in
      let later : IsSorted cmp (y ∷ ys) = λ k d p q. rw Rattle.std.proofs.Common.add-one (rw Rattle.std.proofs.Common.add-one at (sorted (suc k) d (omega arith) (omega arith))) in
      (first, all_weaker _ (AtMost x) (λ z. upto total x y z first) ys (first_least y ys later))

-- ---- the greatest

abbrev pub last_of : ℕ → List Term → List Term → ℕ → Query
last_of tree tests project place = record (over_table tree tests project (falling place)) { limit = lit (Int (pos 1)) }

all_has : {X : Type 0} (P : X → Type 0) (xs : List X) → ((x : X) → Has xs x → P x) → AllByRecursion P xs
all_has P [] f = tt
all_has P (x ∷ xs) f = (f x (inl refl), all_has P xs (λ y h. f y (inr h)))

at_most_as : (o : Ordering) → is_gt (ordering_then o Equal) ≡ false → is_gt o ≡ false
at_most_as Greater h = h
at_most_as _ h = refl

module _ (tree : ℕ) (tests project : List Term) (place : ℕ) (params : Row) where
  abbrev q : Query
  q = last_of tree tests project place

  abbrev put : Row → Output
  put r = output q (params ∷ r ∷ [])

  q_total : IsTotalOrder (output_cmp q)
  q_total = on_total (λ (o : Output). o.0) (key_cmp_total (map (λ k. k.1) (falling place)) 0)

  -- by what the outputs of two rows are in order
  as_values : (r s : Row) → is_gt (output_cmp q (put r) (put s)) ≡ false → is_gt (value_cmp (column s place) (column r place)) ≡ false
  as_values r s h = at_most_as (value_cmp (column s place) (column r place)) h

  by_order : (found : List Row) (ordered : List Output) (rows : List Row) → IsPermutation (map put found) ordered → IsSorted (output_cmp q) ordered → rows ≡ take 1 (map (λ (o : Output). o.1) ordered)
      → ShowsGreatest (shows params project) place found rows
  by_order [] [] rows same sorted shown = subst (ShowsGreatest (shows params project) place []) (sym shown) refl
  by_order (r ∷ found) [] rows same sorted shown = absurd (omega (arith, length_permutation _ _ same))
  by_order found (o ∷ os) rows same sorted shown =
      let P : Output → Type 0 = λ x. (r : Row) × Has found r × (x ≡ put r) in
      let each = recursion_from_All P (o ∷ os) (All-permutation P (map put found) (o ∷ os) same (All-from_recursion P (map put found) (all_map P put found (all_has (λ r. P (put r)) found (λ r h. (r, h, refl)))))) in
      let r = each.0.0 in
      let least : AllByRecursion (λ x. is_gt (output_cmp q o x) ≡ false) (o ∷ os) = (own o, first_least (output_cmp q) q_total o os sorted) in
      let Q : Output → Type 0 = λ x. is_gt (output_cmp q o x) ≡ false in
      let back = all_unmap Q put found
      (recursion_from_All Q (map put found) (All-permutation Q (o ∷ os) (map put found) (IsPermutation-sym _ _ same) (All-from_recursion Q (o ∷ os) least))) in
      subst (ShowsGreatest (shows params project) place found) (sym shown) (
        r,
        record {
          among = each.0.1;
          most = all_weaker _ _ (λ s h. as_values r s (subst (λ x. is_gt (output_cmp q x (put s)) ≡ false) each.0.2 h)) found back;
        },
        ap (λ (x : Output). x.1 ∷ []) each.0.2,
      )
    where
      own : (o : Output) → is_gt (output_cmp q o o) ≡ false
      own o = ap is_gt (Rattle.std.proofs.lemmas.Cmp.tied_itself q_total o)

  pub greatest : (db : Trees) (rows : List Row) → overlay db [] tree ≡ db tree → IsAnswer q (overlay db []) params rows → ShowsGreatest (shows params project) place (filter (passes params tests) (db tree)) rows
  greatest db rows own a =
      let found = filter (passes params tests) (db tree) in
      let staged : a.staged ≡ map (λ r. params ∷ r ∷ []) found = a.grouped ∙ staged_is params tests (overlay db [] tree) ∙ ap (λ all. map (λ r. params ∷ r ∷ []) (filter (passes params tests) all)) own in
      let kept : a.kept ≡ map put found = a.distinct ∙ ap (map (output q)) staged ∙ map-map (output q) (λ (r : Row). params ∷ r ∷ []) found in
      by_order found a.ordered rows (subst (λ l. IsPermutation l a.ordered) kept a.same) a.sorted a.shown

-- what a query for the row with the greatest value shows
pub asked_last : (sql : List ℕ) (tree : ℕ) (key : At) (columns : List ℕ) (place : ℕ) → Asks sql (last_where tree key columns place) → (old new : State) (rows : List Row) → old.now.schema ≡ desk_schema → Shown sql (values_of key) old new rows
    → ShowsGreatest (λ r. map (column r) columns) place (filter (has_key key) (old.now.trees tree)) rows
asked_last sql tree key columns place it old new rows has h =
    let params = values_of key in
    let answer = reads_as sql params old new desk_schema has _ it.is it.plain it.unlisted rows h in
    subst₂ (λ (show : Row → Row) l. ShowsGreatest show place l rows) (λ i row. shows_columns params columns row i) (filter_same _ _ (tested key) (old.now.trees tree))
    (greatest tree (tests_from 0 key) (map (col 1) columns) place params old.now.trees rows (plain old.now.trees tree) (answer.answer Null))
