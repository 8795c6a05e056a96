-- Keys of answers: their order, and which of them are dropped.
use Rattle.std.proofs.Common.{◌≡◌, ℕ, Bool, true, false, ◌&&◌, ◌==◌, refl, sym, ◌∙◌, is_eq, nat_cmp, bytes_eq, Option, Some, None, Bor, option_copied, is_some, cond, List, ◌∷◌, subst, [], ap, ◌+◌, ◌<◌, ◌||◌, ◌++◌, length, get_or, take, map, ⊎_elim, append-nil, nat_lt}
use Rattle.std.proofs.lemmas.Bool.{or_right, cases_Bool}
use Rattle.std.proofs.lemmas.Cmp.{then_total, on_total, nat_cmp_total, nat_list_cmp_total, tied_itself}
use Rattle.std.proofs.lemmas.Grind.{flat_map-append}
use Rattle.std.proofs.lemmas.Map.Lookups.{CmpEqualImpliesEq, exact_unsigned, exact_bytes}
use Rattle.review_table.proofs.Places.{both_equal}
use Rattle.review_table.specs.Rows.{row_in, is_named, place_at, HasEmptyOnly, HasNoEmptyPlace}
use Rattle.review_machine_rows.proofs.Common.{IsTotalOrder, Ordering, RowEdit, deref_pair, is_at, is_eq-slice_cmp, list_any-append, map-append, ordering_then, slice_cmp, take_more, tells_apart, unsigned_ties}
use Rattle.review_machine_rows.proofs.Puts.{is_eq-then}
use Rattle.review_memory_rows.specs.Answers.{answer_cmp, is_among, if_lower, lower}
use Rattle.review_memory_rows.specs.declared.answer_keys.{AnswerKey.AnswerKey, StoredAnswer.StoredAnswer}

-- ==== the order of the keys of answers: it is total, and ties only equal keys

pub exact_answer : CmpEqualImpliesEq answer_cmp
exact_answer x y e =
    let one = both_equal (nat_cmp x.epoch y.epoch) (ordering_then (nat_cmp x.caller y.caller) (slice_cmp nat_cmp x.id y.id)) e in
    let two = both_equal (nat_cmp x.caller y.caller) (slice_cmp nat_cmp x.id y.id) one.1 in
    let epoch = exact_unsigned x.epoch y.epoch one.0 in
    let caller = exact_unsigned x.caller y.caller two.0 in
    let id = exact_bytes x.id y.id two.1 in
    λ i. record { epoch = epoch i; caller = caller i; id = id i }

pub answer_total : IsTotalOrder answer_cmp
answer_total = then_total (on_total (λ (k : AnswerKey). k.epoch) nat_cmp_total) (then_total (on_total (λ (k : AnswerKey). k.caller) nat_cmp_total) (on_total (λ (k : AnswerKey). k.id) nat_list_cmp_total))

pub at_account : (a b : ℕ) → is_at (nat_cmp a) b ≡ (a == b)
at_account a b = sym (unsigned_ties a b)

and_other : (a b c : Bool) → (a && (b && c)) ≡ (b && (a && c))
and_other true true c = refl
and_other true false c = refl
and_other false true c = refl
and_other false false c = refl

pub at_answer : (a b : AnswerKey) → is_at (answer_cmp a) b ≡ ((a.caller == b.caller) && ((a.epoch == b.epoch) && bytes_eq a.id b.id))
at_answer a b =
    is_eq-then (nat_cmp a.epoch b.epoch) (ordering_then (nat_cmp a.caller b.caller) (slice_cmp nat_cmp a.id b.id))
    ∙ (λ i. at_account a.epoch b.epoch i && is_eq-then (nat_cmp a.caller b.caller) (slice_cmp nat_cmp a.id b.id) i)
    ∙ (λ i. (a.epoch == b.epoch) && (at_account a.caller b.caller i && is_eq-slice_cmp a.id b.id i))
    ∙ and_other (a.epoch == b.epoch) (a.caller == b.caller) (bytes_eq a.id b.id)

-- ==== options that are copied or turned into others

pub copied_some : {X : Type 0} (o : Option (Bor X)) → is_some (option_copied o) ≡ is_some o
copied_some None = refl
copied_some (Some x) = refl

-- ==== keys that are left once one is looked at

-- a key for which something holds is not missed where it doesn't hold for the one that was looked at
pub still_left : {K : Type 0} {R : K → K → Ordering} → CmpEqualImpliesEq R → (Holds : K → Type 0) (q key : K) (rest : List (K × Unit {0})) → Holds q → (Holds key → ⊥) → row_in R ((key, tt) ∷ rest) q ≡ Some tt → row_in R rest q ≡ Some tt
still_left {R = R} exact Holds q key rest is other there = by (is_at (R q) key) refl there
  where
    by : (b : Bool) → is_at (R q) key ≡ b → cond b (Some tt) (row_in R rest q) ≡ Some tt → row_in R rest q ≡ Some tt
    by true at h = absurd (other (subst Holds (tells_apart exact q key at) is))
    by false at h = h

-- ==== places without a row

-- a table without rows
pub none_empty : {K X : Type 0} (R : K → K → Ordering) (t : List (K × Option X)) → t ≡ [] → HasNoEmptyPlace R t
none_empty R t none q empty = let bad : None ≡ Some None = ap (λ xs. place_at R xs q) (sym none) ∙ empty in absurd (cc)

-- where no place was spare, only those of the keys that a list names are
pub only_for : {K X Y : Type 0} (R : K → K → Ordering) (t : List (K × Option X)) (cs items : List (RowEdit K Y)) → cs ≡ items → HasEmptyOnly R (is_named R cs) t → HasEmptyOnly R (is_named R items) t
only_for R t cs items is only = subst (λ xs. HasEmptyOnly R (is_named R xs) t) is only

-- ==== which keys are those of lower epochs, and what stands without them

one_more : (least : ℕ) (e : AnswerKey × StoredAnswer) → lower least (e ∷ []) ≡ if_lower least e.0
one_more least e = append-nil (if_lower least e.0)

-- the keys of one row more
pub lower_more : (least : ℕ) (rows : List (Bor AnswerKey × Bor StoredAnswer)) (i : ℕ) (e : Bor AnswerKey × Bor StoredAnswer) → i < length rows → e ≡ get_or rows i e →
    lower least (map deref_pair (take (i + 1) rows)) ≡ lower least (map deref_pair (take i rows)) ++ if_lower least e.0.now
lower_more least rows i e below is =
    let more : take (i + 1) rows ≡ take i rows ++ e ∷ [] = take_more rows i e below ∙ ap (λ x. take i rows ++ x ∷ []) (sym is) in
    ap (λ xs. lower least (map deref_pair xs)) more
    ∙ (ap (lower least) (map-append deref_pair (take i rows) (e ∷ []))
    ∙ (flat_map-append (λ (x : AnswerKey × StoredAnswer). if_lower least x.0) (map deref_pair (take i rows)) (deref_pair e ∷ [])
    ∙ ap (λ l. lower least (map deref_pair (take i rows)) ++ l) (one_more least (deref_pair e))))

-- one key more is among them
pub among_more : (keys : List AnswerKey) (i : ℕ) (k : AnswerKey) (q : AnswerKey) → i < length keys → k ≡ get_or keys i k → is_among (take (i + 1) keys) q ≡ (is_among (take i keys) q || is_at (answer_cmp k) q)
among_more keys i k q below is =
    ap (λ ks. is_among ks q) (take_more keys i k below ∙ ap (λ x. take i keys ++ x ∷ []) (sym is))
    ∙ (list_any-append (λ x. is_at (answer_cmp x) q) (take i keys) (k ∷ []) ∙ ap (λ b. is_among (take i keys) q || b) (or_none (is_at (answer_cmp k) q)))
  where
    or_none : (b : Bool) → (b || false) ≡ b
    or_none true = refl
    or_none false = refl

-- one row more is dropped
pub drop_more : {X : Type 0} (a b : Bool) (old mid new : Option X) → mid ≡ cond a None old → new ≡ cond b None mid → new ≡ cond (a || b) None old
drop_more true true old mid new m n = n
drop_more true false old mid new m n = n ∙ m
drop_more false true old mid new m n = n
drop_more false false old mid new m n = n ∙ m

answer_itself : (k : AnswerKey) → is_at (answer_cmp k) k ≡ true
answer_itself k = ap is_eq (tied_itself answer_total k)

-- a lower key is among those of the rows where it has one
pub among_own : (least : ℕ) (k q : AnswerKey) → k ≡ q → nat_lt q.epoch least ≡ true → is_among (if_lower least k) q ≡ true
among_own least k q same below =
    ap (λ (x : AnswerKey). is_among (if_lower least x) q) same ∙ (ap (λ b. is_among (cond b (q ∷ []) []) q) below ∙ ap (λ b. b || false) (answer_itself q))

pub among_lower : (least : ℕ) (rows : List (AnswerKey × StoredAnswer)) (q : AnswerKey) (v : StoredAnswer) → nat_lt q.epoch least ≡ true → row_in answer_cmp rows q ≡ Some v → is_among (lower least rows) q ≡ true
among_lower least [] q v below is = absurd (cc)
among_lower least (e ∷ rows) q v below is =
    list_any-append (λ x. is_at (answer_cmp x) q) (if_lower least e.0) (lower least rows)
    ∙ ⊎_elim
    (λ (here : is_at (answer_cmp q) e.0 ≡ true). ap (λ b. b || is_among (lower least rows) q) (among_own least e.0 q (sym (tells_apart exact_answer q e.0 here)) below))
    (λ (there : is_at (answer_cmp q) e.0 ≡ false).
    or_right (is_among (if_lower least e.0) q) (is_among (lower least rows) q) (among_lower least rows q v below (sym (ap (λ b. cond b (Some e.1) (row_in answer_cmp rows q)) there) ∙ is)))
    (cases_Bool (is_at (answer_cmp q) e.0))

-- and no other is among them
pub not_own : (least : ℕ) (k q : AnswerKey) → nat_lt q.epoch least ≡ false → is_among (if_lower least k) q ≡ false
not_own least k q above = ⊎_elim
    (λ (t : nat_lt k.epoch least ≡ true). ap (λ b. is_among (cond b (k ∷ []) []) q) t ∙ at (is_at (answer_cmp k) q) refl t)
    (λ (f : nat_lt k.epoch least ≡ false). ap (λ b. is_among (cond b (k ∷ []) []) q) f)
    (cases_Bool (nat_lt k.epoch least))
  where
    at : (b : Bool) → is_at (answer_cmp k) q ≡ b → nat_lt k.epoch least ≡ true → (is_at (answer_cmp k) q || false) ≡ false
    at false is t = ap (λ b. b || false) is
    at true is t = absurd (let e = ap (λ (x : AnswerKey). nat_lt x.epoch least) (tells_apart exact_answer k q is) in cc)

pub not_lower : (least : ℕ) (rows : List (AnswerKey × StoredAnswer)) (q : AnswerKey) → nat_lt q.epoch least ≡ false → is_among (lower least rows) q ≡ false
not_lower least [] q above = refl
not_lower least (e ∷ rows) q above =
    list_any-append (λ x. is_at (answer_cmp x) q) (if_lower least e.0) (lower least rows) ∙ (λ i. not_own least e.0 q above i || not_lower least rows q above i)
