-- Lists: their items by number, by place, and in order.
use Rattle.std.proofs.Common.{◌≡◌, ℕ, zero, suc, ◌+◌, ◌<◌, ◌≤◌, List, [], ◌∷◌, ◌++◌, length, Some, None, ◌⊎◌, inl, inr, ap, refl, arith, slice_get, sym, ◌∙◌, ⊎_elim, ◌==◌, Option, Bool, true, false, cond, ◌||◌, subst, eqb-true, eq-eqb, All, Contains, option_map}
use Rattle.std.proofs.lemmas.Map.Keys.{IsDistinct-head, IsDistinct-tail, IsDistinct-cons}
use Rattle.std.proofs.lemmas.Option.{slice_get_past, slice_get_within, none-some, slice_get_cases, slice_get-get_or, get_or_from_slice_get}
use Rattle.std.specs.List.{AllByRecursion, IsDistinct, list_any}
use Rattle.review_table.proofs.Plain.{all_at}
use Rattle.review_machine_rows.proofs.Common.{cases_lt, of_number, option_or, place_in, recursion_from_All}

-- ==== items by their numbers, which are counted from 1

get_appended : {X : Type 0} (xs : List X) (x y : X) (n : ℕ) → slice_get (xs ++ x ∷ []) n ≡ Some y → (slice_get xs n ≡ Some y) ⊎ ((n ≡ length xs) × (x ≡ y))
get_appended [] x y zero is = let same : x ≡ y = cc in inr (refl, same)
get_appended [] x y (suc n) is = absurd (cc)
get_appended (z ∷ xs) x y zero is = inl is
get_appended (z ∷ xs) x y (suc n) is = more (get_appended xs x y n is)
  where
    more : (slice_get xs n ≡ Some y) ⊎ ((n ≡ length xs) × (x ≡ y)) → (slice_get xs n ≡ Some y) ⊎ ((suc n ≡ suc (length xs)) × (x ≡ y))
    more (inl was) = inl was
    more (inr new) = inr (ap suc new.0, new.1)

-- an item of a list with one more is one of the list, or that one
pub appended : {X : Type 0} (xs : List X) (x y : X) (number : ℕ) → of_number (xs ++ x ∷ []) number ≡ Some y → (of_number xs number ≡ Some y) ⊎ ((number ≡ length xs + 1) × (x ≡ y))
appended xs x y zero is = absurd (cc)
appended xs x y (suc n) is = more (get_appended xs x y n is)
  where
    more : (slice_get xs n ≡ Some y) ⊎ ((n ≡ length xs) × (x ≡ y)) → (slice_get xs n ≡ Some y) ⊎ ((suc n ≡ length xs + 1) × (x ≡ y))
    more (inl was) = inl was
    more (inr new) = let last : suc n ≡ length xs + 1 = let e = new.0 in omega arith in inr (last, new.1)

-- a list of one has just that one
pub only : {X : Type 0} (x y : X) (number : ℕ) → of_number (x ∷ []) number ≡ Some y → (number ≡ 1) × (x ≡ y)
only x y (suc zero) is = let same : x ≡ y = cc in (refl, same)
only x y _ is = absurd (cc)

get_kept : {X : Type 0} (xs ys : List X) (y : X) (n : ℕ) → slice_get xs n ≡ Some y → slice_get (xs ++ ys) n ≡ Some y
get_kept [] ys y n is = absurd (cc)
get_kept (x ∷ xs) ys y zero is = is
get_kept (x ∷ xs) ys y (suc n) is = get_kept xs ys y n is

-- an item keeps its number where more come behind it
pub kept : {X : Type 0} (xs ys : List X) (y : X) (number : ℕ) → of_number xs number ≡ Some y → of_number (xs ++ ys) number ≡ Some y
kept xs ys y zero is = absurd (cc)
kept xs ys y (suc n) is = get_kept xs ys y n is

-- a number of an item is at most that of the last
pub number_within : {X : Type 0} (xs : List X) (y : X) (number : ℕ) → of_number xs number ≡ Some y → number ≤ length xs
number_within xs y zero is = absurd (cc)
number_within xs y (suc n) is = let within = slice_get_within xs n y is in omega arith

-- the last item, where there is one
pub last_of : {X : Type 0} (xs : List X) → 1 ≤ length xs → (x : X) × (of_number xs (length xs) ≡ Some x)
last_of [] some = absurd (omega arith)
last_of (x ∷ xs) some = by x xs
  where
    by : {X : Type 0} (y : X) (ys : List X) → (z : X) × (slice_get (y ∷ ys) (length ys) ≡ Some z)
    by y [] = (y, refl)
    by y (z ∷ zs) = by z zs

-- no item has a number past the last
pub none_past : {X : Type 0} (xs : List X) (number : ℕ) → length xs < number → of_number xs number ≡ None
none_past xs zero past = refl
none_past xs (suc n) past = slice_get_past xs n (omega arith)

-- ==== items by their numbers, which count from 1, and the last of them

pub of_number_there : {X : Type 0} (xs : List X) (n : ℕ) → 1 ≤ n → n ≤ length xs → (x : X) × (of_number xs n ≡ Some x)
of_number_there xs zero low high = absurd (omega arith)
of_number_there xs (suc k) low high =
    ⊎_elim (λ here. (here.0, here.2)) (λ past. let e : length xs ≤ k = past.0 in absurd (omega arith)) (slice_get_cases xs k).1

of_number_within : {X : Type 0} (xs : List X) (n : ℕ) (x : X) → of_number xs n ≡ Some x → n ≤ length xs
of_number_within xs zero x is = omega arith
of_number_within xs (suc k) x is = let e : k < length xs = slice_get_within xs k x is in omega arith

-- the item after whose number none comes is the last
pub last_number : {X : Type 0} (xs : List X) (n : ℕ) (x : X) → of_number xs n ≡ Some x → ((m : ℕ) → n < m → of_number xs m ≡ None) → of_number xs (length xs) ≡ Some x
last_number xs n x is later =
    let within : n ≤ length xs = of_number_within xs n x is in ⊎_elim
    (λ (lt : n < length xs).
    let there = of_number_there xs (length xs) (omega arith) (omega arith) in
    absurd (none-some there.0 (sym (later (length xs) lt) ∙ there.1)))
    (λ (ge : length xs ≤ n). let same : length xs ≡ n = omega arith in ap (of_number xs) same ∙ is)
    (cases_lt n (length xs))

-- ==== lists of the same items in the same order

-- Two lists have the same items, once each in the first and in its order in the second.
pub record InOrder {X : Type 0} (ys js : List X) : Type 0 where
  pub each : (k : ℕ) (x : X) → slice_get js k ≡ Some x → (p : ℕ) × (slice_get ys p ≡ Some x)
  pub all : (p : ℕ) (x : X) → slice_get ys p ≡ Some x → (k : ℕ) × (slice_get js k ≡ Some x)
  pub once : (p q : ℕ) (x : X) → slice_get ys p ≡ Some x → slice_get ys q ≡ Some x → p ≡ q
  pub ordered : (k l p q : ℕ) (x z : X) → k < l → slice_get js k ≡ Some x → slice_get js l ≡ Some z → slice_get ys p ≡ Some x → slice_get ys q ≡ Some z → p < q

-- they begin with the same item
firsts : {X : Type 0} (y : X) (ys : List X) (j : X) (js : List X) → InOrder (y ∷ ys) (j ∷ js) → j ≡ y
firsts y ys j js o = let at = o.all 0 y refl in by at.0 at.1
  where
    by : (k : ℕ) → slice_get (j ∷ js) k ≡ Some y → j ≡ y
    by zero is = cc
    by (suc k) is =
        let first = o.each 0 j refl in
        let before : first.0 < 0 = o.ordered 0 (suc k) first.0 0 j y (omega arith) refl is first.1 refl in
        absurd (omega arith)

-- and what follows it is in order too
rests : {X : Type 0} (y : X) (ys : List X) (j : X) (js : List X) → InOrder (y ∷ ys) (j ∷ js) → InOrder ys js
rests {X} y ys j js o = record {
  each = λ k x is. let at = o.each (suc k) x is in each_later k x is at.0 at.1;
  all = λ p x is. let at = o.all (suc p) x is in all_later p x is at.0 at.1;
  once = λ p q x here there. let e : suc p ≡ suc q = o.once (suc p) (suc q) x here there in omega arith;
  ordered = λ k l p q x z lt a b c d. let e : suc p < suc q = o.ordered (suc k) (suc l) (suc p) (suc q) x z (omega arith) a b c d in omega arith;
}
  where
    begins : slice_get (y ∷ ys) 0 ≡ Some j
    begins = ap Some (sym (firsts y ys j js o))

    each_later : (k : ℕ) (x : X) → slice_get js k ≡ Some x → (p : ℕ) → slice_get (y ∷ ys) p ≡ Some x → (q : ℕ) × (slice_get ys q ≡ Some x)
    each_later k x is zero at = let before : 0 < 0 = o.ordered 0 (suc k) 0 0 j x (omega arith) refl is begins at in absurd (omega arith)
    each_later k x is (suc p) at = (p, at)

    all_later : (p : ℕ) (x : X) → slice_get ys p ≡ Some x → (k : ℕ) → slice_get (j ∷ js) k ≡ Some x → (l : ℕ) × (slice_get js l ≡ Some x)
    all_later p x is zero at = let twice : 0 ≡ suc p = o.once 0 (suc p) x (begins ∙ at) is in absurd (omega arith)
    all_later p x is (suc k) at = (k, at)

-- so they are the same
pub same_order : {X : Type 0} (ys js : List X) → InOrder ys js → js ≡ ys
same_order [] [] o = refl
same_order [] (j ∷ js) o = let at = o.each 0 j refl in let e : None ≡ Some j = at.1 in absurd (cc)
same_order (y ∷ ys) [] o = let at = o.all 0 y refl in let e : None ≡ Some y = at.1 in absurd (cc)
same_order (y ∷ ys) (j ∷ js) o =
    let first = firsts y ys j js o in
    let rest = same_order ys js (rests y ys j js o) in
    λ i. first i ∷ rest i

-- ==== places in lists

from_none : (o : Option ℕ) → o ≡ option_map (λ k. 0 + k) o
from_none None = refl
from_none (Some k) = let e : k ≡ 0 + k = omega arith in ap Some e

one_more : (b : Bool) (a c : Option ℕ) (size : ℕ) →
    cond b (Some 1) (option_map (λ k. k + 1) (option_or a (option_map (λ k. size + k) c))) ≡ option_or (cond b (Some 1) (option_map (λ k. k + 1) a)) (option_map (λ k. suc size + k) c)
one_more true a c size = refl
one_more false (Some a) c size = refl
one_more false None None size = refl
one_more false None (Some k) size = let e : (size + k) + 1 ≡ suc size + k = omega arith in ap Some e

-- the place in one list behind another is the place in the first, or else that in the second, behind all of the first
pub place_behind : (xs ys : List ℕ) (n : ℕ) → place_in (xs ++ ys) n ≡ option_or (place_in xs n) (option_map (λ k. length xs + k) (place_in ys n))
place_behind [] ys n = from_none (place_in ys n)
place_behind (x ∷ xs) ys n = ap (λ o. cond (x == n) (Some 1) (option_map (λ k. k + 1) o)) (place_behind xs ys n) ∙ one_more (x == n) (place_in xs n) (place_in ys n) (length xs)

unmapped : (o : Option ℕ) (k : ℕ) → option_map (λ k. k + 1) o ≡ Some k → (j : ℕ) × (o ≡ Some j) × (k ≡ j + 1)
unmapped None k e = absurd (cc)
unmapped (Some j) k e = let same : j + 1 ≡ k = cc in (j, refl, sym same)

-- who has a place in a list stands there
pub placed_get : (xs : List ℕ) (n place : ℕ) → place_in xs n ≡ Some place → (k : ℕ) × (slice_get xs k ≡ Some n) × (place ≡ k + 1)
placed_get [] n place is = absurd (cc)
placed_get (x ∷ xs) n place is = by (λ j at. placed_get xs n j at) (x == n) refl is
  where
    by : ((j : ℕ) → place_in xs n ≡ Some j → (k : ℕ) × (slice_get xs k ≡ Some n) × (j ≡ k + 1)) → (b : Bool) → (x == n) ≡ b → cond b (Some 1) (option_map (λ k. k + 1) (place_in xs n)) ≡ Some place →
        (k : ℕ) × (slice_get (x ∷ xs) k ≡ Some n) × (place ≡ k + 1)
    by later true same is = let one : 1 ≡ place = cc in (0, ap Some (eqb-true x n same), sym one)
    by later false other is =
        let j = unmapped (place_in xs n) place is in
        let k = later j.0 j.1 in
        let before : j.0 ≡ k.0 + 1 = k.2 in
        let behind : place ≡ j.0 + 1 = j.2 in
        (suc k.0, k.1, omega arith)

-- who stands in a list without repetitions has its place there
pub get_placed : (xs : List ℕ) (k n : ℕ) → IsDistinct ◌==◌ xs → slice_get xs k ≡ Some n → place_in xs n ≡ Some (k + 1)
get_placed [] k n distinct is = absurd (cc)
get_placed (x ∷ xs) zero n distinct is = let same : x ≡ n = cc in ap (λ b. cond b (Some 1) (option_map (λ j. j + 1) (place_in xs n))) (eq-eqb x n same)
get_placed (x ∷ xs) (suc k) n distinct is =
    let other : (x == n) ≡ false = all_at (λ y. (x == y) ≡ false) xs k n (IsDistinct-head ◌==◌ x xs distinct) is in
    let more : (k + 1) + 1 ≡ suc k + 1 = omega arith in
    ap (λ b. cond b (Some 1) (option_map (λ j. j + 1) (place_in xs n))) other
    ∙ (ap (option_map (λ j. j + 1)) (get_placed xs k n (IsDistinct-tail ◌==◌ x xs distinct) is) ∙ ap Some more)

place_later : (x : ℕ) (xs : List ℕ) (n k : ℕ) → place_in xs n ≡ Some k → (j : ℕ) × (place_in (x ∷ xs) n ≡ Some j)
place_later x xs n k is = by (x == n)
  where
    by : (b : Bool) → (j : ℕ) × (cond b (Some 1) (option_map (λ i. i + 1) (place_in xs n)) ≡ Some j)
    by true = (1, refl)
    by false = (k + 1, ap (option_map (λ i. i + 1)) is)

-- what holds of each that has a place in a list holds of all in it
pub all_placed : (P : ℕ → Type 0) (xs : List ℕ) → ((n k : ℕ) → place_in xs n ≡ Some k → P n) → AllByRecursion P xs
all_placed P [] each = tt
all_placed P (x ∷ xs) each =
    (each x 1 (ap (λ b. cond b (Some 1) (option_map (λ j. j + 1) (place_in xs x))) (eq-eqb x x refl)), all_placed P xs (λ n k is. let later = place_later x xs n k is in each n later.0 later.1))

-- what holds of all in a list holds of one that has a place there
pub at_place : (P : ℕ → Type 0) (xs : List ℕ) (n k : ℕ) → All P xs → place_in xs n ≡ Some k → P n
at_place P xs n k all is = let at = placed_get xs n k is in all_at P xs at.0 n (recursion_from_All P xs all) at.1

placed_apart : (x : ℕ) (xs : List ℕ) (n : ℕ) → place_in (x ∷ xs) n ≡ None → ((x == n) ≡ false) × (place_in xs n ≡ None)
placed_apart x xs n none = by (x == n) refl none
  where
    unplaced : (o : Option ℕ) → option_map (λ j. j + 1) o ≡ None → o ≡ None
    unplaced None e = refl
    unplaced (Some j) e = absurd (cc)

    by : (b : Bool) → (x == n) ≡ b → cond b (Some 1) (option_map (λ j. j + 1) (place_in xs n)) ≡ None → ((x == n) ≡ false) × (place_in xs n ≡ None)
    by true same e = absurd (cc)
    by false other e = (other, unplaced (place_in xs n) e)

pub each_weaker : (P Q : ℕ → Type 0) → ((n : ℕ) → P n → Q n) → (xs : List ℕ) → AllByRecursion P xs → AllByRecursion Q xs
each_weaker P Q then [] all = tt
each_weaker P Q then (x ∷ xs) all = (then x all.0, each_weaker P Q then xs all.1)

each_append : (P : ℕ → Type 0) (xs ys : List ℕ) → AllByRecursion P xs → AllByRecursion P ys → AllByRecursion P (xs ++ ys)
each_append P [] ys front back = back
each_append P (x ∷ xs) ys front back = (front.0, each_append P xs ys front.1 back)

-- two lists without repetitions, of which the second has none of the first, have none together
pub distinct_append : (xs ys : List ℕ) → IsDistinct ◌==◌ xs → IsDistinct ◌==◌ ys → AllByRecursion (λ y. place_in xs y ≡ None) ys → IsDistinct ◌==◌ (xs ++ ys)
distinct_append [] ys front back apart = back
distinct_append (x ∷ xs) ys front back apart =
    IsDistinct-cons ◌==◌ x (xs ++ ys)
    (each_append (λ y. (x == y) ≡ false) xs ys (IsDistinct-head ◌==◌ x xs front) (each_weaker (λ y. place_in (x ∷ xs) y ≡ None) (λ y. (x == y) ≡ false) (λ y none. (placed_apart x xs y none).0) ys apart))
    (distinct_append xs ys (IsDistinct-tail ◌==◌ x xs front) back (each_weaker (λ y. place_in (x ∷ xs) y ≡ None) (λ y. place_in xs y ≡ None) (λ y none. (placed_apart x xs y none).1) ys apart))

-- what is found in a list is one of it
pub any_of : (P : ℕ → Type 0) (xs : List ℕ) (q : ℕ) → AllByRecursion P xs → list_any (λ y. q == y) xs ≡ true → P q
any_of P [] q all found = absurd (cc)
any_of P (x ∷ xs) q all found = by (any_of P xs q all.1) (q == x) refl found
  where
    by : (list_any (λ y. q == y) xs ≡ true → P q) → (b : Bool) → (q == x) ≡ b → (b || list_any (λ y. q == y) xs) ≡ true → P q
    by later true same e = subst P (sym (eqb-true q x same)) all.0
    by later false other e = later e

-- who has a place in a list is in it, and the other way round
pub contains_placed : (xs : List ℕ) (n k : ℕ) → place_in xs n ≡ Some k → Contains xs n
contains_placed xs n k is = let at = placed_get xs n k is in (at.0, slice_get_within xs at.0 n at.1, get_or_from_slice_get xs at.0 n n at.1)

pub contained_get : {X : Type 0} (xs : List X) (x : X) → Contains xs x → (k : ℕ) × (slice_get xs k ≡ Some x)
contained_get xs x c = (c.0, slice_get-get_or xs c.0 x c.1 ∙ ap Some c.2)
