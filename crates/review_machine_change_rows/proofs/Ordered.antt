-- Rows by their numbers, in order.
use Rattle.std.proofs.Common.{◌≡◌, ℕ, zero, suc, ◌+◌, ◌<◌, ◌≤◌, ◌==◌, true, false, cond, List, [], ◌∷◌, ◌++◌, length, Some, None, refl, sym, ap, ◌∙◌, subst, ⊎_elim, arith}
use Rattle.std.{proofs.lemmas.Cmp.ranked, specs.List.Sorted.IsStrictlySortedBy, specs.Prelude.slice_get}
use Rattle.review_machine_rows.proofs.Common.{AllByRecursion, Less, append-nil, cases_lt, keys_of, nat_cmp, nat_tests, of_number, row_in, unsigned_tied}
use Rattle.review_machine_change_rows.specs.declared.loading.ChangeFault.{ChangeFault}
use Rattle.review_machine_change_rows.specs.declared.loading.ChangeFault.TheVariants.{Memory, Gap}
use Rattle.review_machine_change_rows.specs.inner.Words.{AddsNext, AreInOrder, IsGap, IsNotNext, numbered}

-- one more row under the next number
pub numbered_more : {X : Type 0} (k : ℕ) (xs : List X) (m : ℕ) (x : X) (rest : List (ℕ × X)) → m ≡ k + length xs + 1 → numbered k (xs ++ x ∷ []) ++ rest ≡ numbered k xs ++ (m, x) ∷ rest
numbered_more k [] m x rest is = let e : k + 1 ≡ m = omega (arith, is) in ap (λ n. (n, x) ∷ rest) e
numbered_more k (y ∷ xs) m x rest is = ap (λ l. (k + 1, y) ∷ l) (numbered_more (k + 1) xs m x rest (omega (arith, is)))

before_first : {X : Type 0} (k : ℕ) (xs : List X) (n : ℕ) → n ≤ k → row_in nat_cmp (numbered k xs) n ≡ None
before_first k [] n h = refl
before_first k (x ∷ xs) n h =
    let e : (n == k + 1) ≡ false = grind (arith, nat_tests) in
    ap (λ b. cond b (Some x) (row_in nat_cmp (numbered (k + 1) xs) n)) (unsigned_tied n (k + 1) ∙ e) ∙ before_first (k + 1) xs n (omega arith)

at_number : {X : Type 0} (k : ℕ) (xs : List X) (m n : ℕ) → n ≡ k + m + 1 → row_in nat_cmp (numbered k xs) n ≡ slice_get xs m
at_number k [] m n is = refl
at_number k (x ∷ xs) zero n is =
    let e : (n == k + 1) ≡ true = grind (arith, nat_tests) in ap (λ b. cond b (Some x) (row_in nat_cmp (numbered (k + 1) xs) n)) (unsigned_tied n (k + 1) ∙ e)
at_number k (x ∷ xs) (suc m) n is =
    let e : (n == k + 1) ≡ false = grind (arith, nat_tests) in
    ap (λ b. cond b (Some x) (row_in nat_cmp (numbered (k + 1) xs) n)) (unsigned_tied n (k + 1) ∙ e) ∙ at_number (k + 1) xs m n (omega (arith, is))

numbered_is : {X : Type 0} (xs : List X) → AreInOrder (numbered 0 xs) xs
numbered_is xs zero = before_first 0 xs 0 (omega arith)
numbered_is xs (suc m) = at_number 0 xs m (suc m) (omega arith)

-- all rows are under their numbers
pub in_order : {X : Type 0} (rows : List (ℕ × X)) (xs : List X) → numbered 0 xs ++ [] ≡ rows → AreInOrder rows xs
in_order rows xs is n = ap (λ r. row_in nat_cmp r n) (sym is ∙ append-nil (numbered 0 xs)) ∙ numbered_is xs n

-- ---- gaps

get_none : {X : Type 0} (ys : List X) (n : ℕ) → slice_get ys n ≡ None → length ys ≤ n
get_none [] n h = omega arith
get_none (y ∷ ys) zero h = absurd (cc)
get_none (y ∷ ys) (suc n) h = let r = get_none ys n h in omega (arith, r)

get_some : {X : Type 0} (ys : List X) (n : ℕ) (x : X) → slice_get ys n ≡ Some x → n < length ys
get_some [] n x h = absurd (cc)
get_some (y ∷ ys) zero x h = omega arith
get_some (y ∷ ys) (suc n) x h = let r = get_some ys n x h in omega (arith, r)

number_none : {X : Type 0} (ys : List X) (n : ℕ) → of_number ys (n + 1) ≡ None → length ys ≤ n
number_none ys n h = let e : suc n ≡ n + 1 = omega arith in get_none ys n (ap (of_number ys) e ∙ h)

number_some : {X : Type 0} (ys : List X) (m : ℕ) (x : X) → of_number ys m ≡ Some x → m ≤ length ys
number_some ys zero x h = absurd (cc)
number_some ys (suc n) x h = let r = get_some ys n x h in omega (arith, r)

nat_cmp_less : (m n : ℕ) → nat_cmp m n ≡ Less → m < n
nat_cmp_less m n h = ranked m n Less (sym h)

none_below : {X : Type 0} (m : ℕ) (rest : List (ℕ × X)) (n : ℕ) → AllByRecursion (λ z. nat_cmp m z ≡ Less) (keys_of rest) → n ≤ m → row_in nat_cmp rest n ≡ None
none_below m [] n s h = refl
none_below m (r ∷ rest) n s h =
    let lt : m < r.0 = nat_cmp_less m r.0 s.0 in
    let e : (n == r.0) ≡ false = grind (arith, nat_tests) in
    ap (λ b. cond b (Some r.1) (row_in nat_cmp rest n)) (unsigned_tied n r.0 ∙ e) ∙ none_below m rest n s.1 h

-- a number is passed over
record IsHole {X : Type 0} (rows : List (ℕ × X)) (n m : ℕ) (x : X) : Type 0 where
  at : row_in nat_cmp rows n ≡ None
  far : n < m
  there : row_in nat_cmp rows m ≡ Some x

later_than : {X : Type 0} (k : ℕ) (front : List (ℕ × X)) (m : ℕ) (x : X) (rest : List (ℕ × X)) → AllByRecursion (λ z. nat_cmp k z ≡ Less) (keys_of (front ++ (m, x) ∷ rest)) → nat_cmp k m ≡ Less
later_than k [] m x rest s = s.0
later_than k (f ∷ front) m x rest s = later_than k front m x rest s.1

hole : {X : Type 0} (k : ℕ) (xs : List X) (m : ℕ) (x : X) (rest : List (ℕ × X)) → IsStrictlySortedBy nat_cmp (keys_of (numbered k xs ++ (m, x) ∷ rest)) → k < m → (m ≡ k + length xs + 1 → ⊥) →
    IsHole (numbered k xs ++ (m, x) ∷ rest) (k + length xs + 1) m x
unfolding IsStrictlySortedBy
hole k [] m x rest s low ne = ⊎_elim
    (λ (lt : k + 1 < m).
    let e : (k + 0 + 1 == m) ≡ false = grind (arith, nat_tests) in
    let f : (m == m) ≡ true = grind (arith, nat_tests) in
    record {
      at = ap (λ b. cond b (Some x) (row_in nat_cmp rest (k + 0 + 1))) (unsigned_tied (k + 0 + 1) m ∙ e) ∙ none_below m rest (k + 0 + 1) s.0 (omega arith);
      far = omega arith;
      there = ap (λ b. cond b (Some x) (row_in nat_cmp rest m)) (unsigned_tied m m ∙ f);
    })
    (λ (ge : m ≤ k + 1). absurd (ne (omega arith)))
    (cases_lt (k + 1) m)
hole k (y ∷ xs) m x rest s low ne =
    let lt : k + 1 < m = nat_cmp_less (k + 1) m (later_than (k + 1) (numbered (k + 1) xs) m x rest s.0) in
    let h = hole (k + 1) xs m x rest s.1 lt (λ e. ne (omega (arith, e))) in
    let same : k + 1 + length xs + 1 ≡ k + length (y ∷ xs) + 1 = omega arith in
    let far = h.far in
    let other : (k + length (y ∷ xs) + 1 == k + 1) ≡ false = grind (arith, nat_tests) in
    let above : (m == k + 1) ≡ false = grind (arith, nat_tests) in
    record {
      at = ap (λ b. cond b (Some y) (row_in nat_cmp (numbered (k + 1) xs ++ (m, x) ∷ rest) (k + length (y ∷ xs) + 1))) (unsigned_tied (k + length (y ∷ xs) + 1) (k + 1) ∙ other)
          ∙ ap (λ n. row_in nat_cmp (numbered (k + 1) xs ++ (m, x) ∷ rest) n) (sym same) ∙ h.at;
      far = omega (arith, far, same);
      there = ap (λ b. cond b (Some y) (row_in nat_cmp (numbered (k + 1) xs ++ (m, x) ∷ rest) m)) (unsigned_tied m (k + 1) ∙ above) ∙ h.there;
    }

-- rows that pass over a number make no list
pub gap : {X : Type 0} (rows : List (ℕ × X)) (xs : List X) (m : ℕ) (x : X) (rest : List (ℕ × X)) → IsStrictlySortedBy nat_cmp (keys_of rows) → numbered 0 xs ++ (m, x) ∷ rest ≡ rows → 1 ≤ m →
    (m ≡ length xs + 1 → ⊥) → (ys : List X) → AreInOrder rows ys → ⊥
gap rows xs m x rest s is low ne ys order =
    let h = hole 0 xs m x rest (subst (λ r. IsStrictlySortedBy nat_cmp (keys_of r)) (sym is) s) (omega arith) (λ e. ne (omega (arith, e))) in
    let same : 0 + length xs + 1 ≡ length xs + 1 = omega arith in
    let short = number_none ys (length xs) (sym (order (length xs + 1)) ∙ ap (λ r. row_in nat_cmp r (length xs + 1)) (sym is) ∙ ap (row_in nat_cmp (numbered 0 xs ++ (m, x) ∷ rest)) (sym same) ∙ h.at) in
    let long = number_some ys m x (sym (order m) ∙ ap (λ r. row_in nat_cmp r m) (sym is) ∙ h.there) in
    let far = h.far in
    absurd (omega (arith, short, long, far))

-- ---- one row more

-- the next row of those that are left
pub one_more : {X : Type 0} (all left rest : List (ℕ × X)) (old new : List X) (n : ℕ) (x : X) → left ≡ (n, x) ∷ rest → AddsNext old n x new → numbered 0 old ++ left ≡ all → numbered 0 new ++ rest ≡ all
one_more all left rest old new n x is adds whole =
    let next = adds.0 in
    ap (λ xs. numbered 0 xs ++ rest) adds.1 ∙ numbered_more 0 old n x rest (omega (arith, next)) ∙ ap (λ xs. numbered 0 old ++ xs) (sym is) ∙ whole

-- or a row whose number isn't the next
pub not_next : {X : Type 0} (all left rest : List (ℕ × X)) (old : List X) (n : ℕ) (x : X) (f : ChangeFault) → IsStrictlySortedBy nat_cmp (keys_of all) → left ≡ (n, x) ∷ rest → numbered 0 old ++ left ≡ all →
    IsNotNext old n f → IsGap all f
not_next all left rest old n x Memory sorted is whole other = tt
not_next all left rest old n x Gap sorted is whole other = gap all old n x rest sorted (ap (λ xs. numbered 0 old ++ xs) (sym is) ∙ whole) other.0 other.1
