-- Edits that are noted beside a table.
use Rattle.std.proofs.Common.{◌≡◌, List, [], ◌∷◌, ◌++◌, Option, Some, None, Bool, true, false, cond, map, refl, sym, ap, ◌∙◌, ⊎_elim, ◌||◌}
use Rattle.std.proofs.Math.Bool.{or_assoc}
use Rattle.std.proofs.lemmas.{Bool.or_left, Bool.or_right, Bool.cases_Bool, Cmp.tied_back}
use Rattle.std.specs.{BTreeMap.is_at, Cmp.IsTotalOrder, Cmp.Equal-is, List.AllByRecursion, List.list_any}
use Rattle.std.specs.{List.Sorted.IsStrictlySortedBy, Map.lookup, Map.keys_of, Option.IsSome, Option.is_some}
use Rattle.std.specs.{Ordering.is_eq, declared.cmp.Ordering.Ordering, declared.cmp.Ordering.TheVariants.Less}
use Rattle.review_table.specs.Rows.{row_in, row_edit_of, place_at, after_row_edit, NamesOnce}
use Rattle.review_table.specs.{declared.table.RowEdit.RowEdit, inner.Words.as_edit}

at_back : {K : Type 0} {R : K → K → Ordering} (o : IsTotalOrder R) (j k : K) → is_at (R j) k ≡ true → is_at (R k) j ≡ true
at_back {R = R} o j k h = ap is_eq (tied_back o j k ((Equal-is (R j k)).0 h))

-- a tie goes both ways
pub at_same : {K : Type 0} {R : K → K → Ordering} (o : IsTotalOrder R) (j k : K) → is_at (R j) k ≡ is_at (R k) j
at_same {R = R} o j k = ⊎_elim
    (λ (y : is_at (R j) k ≡ true). y ∙ sym (at_back o j k y))
    (λ (f : is_at (R j) k ≡ false). ⊎_elim
    (λ (y : is_at (R k) j ≡ true). let e = at_back o k j y in absurd (let g : true ≡ false = sym e ∙ f in cc))
    (λ (g : is_at (R k) j ≡ false). f ∙ sym g)
    (cases_Bool (is_at (R k) j)))
    (cases_Bool (is_at (R j) k))

-- the edit of a key is its place
pub edits_at : {K X : Type 0} {R : K → K → Ordering} (o : IsTotalOrder R) (t : List (K × Option X)) (q : K) → row_edit_of R (map as_edit t) q ≡ place_at R t q
edits_at o [] q = refl
edits_at {R = R} o (e ∷ t) q = λ i. cond (at_same o e.0 q i) (Some e.1) (edits_at o t q i)

-- in order, no place after a key's is of that key
none_after : {K X : Type 0} {R : K → K → Ordering} (o : IsTotalOrder R) (k : K) (t : List (K × X)) → AllByRecursion (λ y. R k y ≡ Less) (keys_of t) → lookup (is_at (R k)) t ≡ None
none_after o k [] s = refl
none_after {R = R} o k (e ∷ t) s = let h : is_at (R k) e.0 ≡ false = ap is_eq s.0 in rw h (none_after o k t s.1)

pub edits_once : {K X : Type 0} {R : K → K → Ordering} (o : IsTotalOrder R) (t : List (K × Option X)) → IsStrictlySortedBy R (keys_of t) → NamesOnce R (map as_edit t)
unfolding IsStrictlySortedBy
edits_once o [] s = tt
edits_once o (e ∷ t) s = (edits_at o t e.0 ∙ none_after o e.0 t s.0, edits_once o t s.1)

-- and their keys are its keys
pub edits_keys : {K X : Type 0} (t : List (K × Option X)) → map (λ (c : RowEdit K X). c.key) (map as_edit t) ≡ keys_of t
edits_keys [] = refl
edits_keys (e ∷ t) = ap (λ ks. e.0 ∷ ks) (edits_keys t)

found_here : {X : Type 0} (b rest : Bool) (v : X) (o : Option X) → (IsSome o → rest ≡ true) → IsSome (cond b (Some v) o) → (b || rest) ≡ true
found_here true rest v o there some = refl
found_here false rest v o there some = there some

-- who is found is among the keys
pub found : {K X : Type 0} (test : K → Bool) (t : List (K × X)) → IsSome (lookup test t) → list_any test (keys_of t) ≡ true
found test [] some = absurd (let none : false ≡ true = some in cc)
found test (e ∷ t) some = found_here (test e.0) (list_any test (keys_of t)) e.1 (lookup test t) (found test t) some

any_both : {K : Type 0} (test : K → Bool) (xs ys : List K) → list_any test (xs ++ ys) ≡ (list_any test xs || list_any test ys)
any_both test [] ys = refl
any_both test (x ∷ xs) ys = ap (λ b. test x || b) (any_both test xs ys) ∙ sym (or_assoc (test x) (list_any test xs) (list_any test ys))

-- a key that has a row after an edit has one in the table or is edited
pub among : {K X : Type 0} (R : K → K → Ordering) (q : K) (rows : List (K × X)) (edits : List (K × Option X)) → IsSome (after_row_edit (place_at R edits q) (row_in R rows q)) → list_any (is_at (R q)) (keys_of rows ++ keys_of edits) ≡ true
among R q rows edits h = any_both (is_at (R q)) (keys_of rows) (keys_of edits) ∙ by (place_at R edits q) refl h
  where
    by : (o : Option (Option _)) → place_at R edits q ≡ o → IsSome (after_row_edit o (row_in R rows q)) → (list_any (is_at (R q)) (keys_of rows) || list_any (is_at (R q)) (keys_of edits)) ≡ true
    by None e some = or_left (list_any (is_at (R q)) (keys_of rows)) (list_any (is_at (R q)) (keys_of edits)) (found (is_at (R q)) rows some)
    by (Some r) e some = or_right (list_any (is_at (R q)) (keys_of rows)) (list_any (is_at (R q)) (keys_of edits)) (found (is_at (R q)) edits (ap is_some e))
