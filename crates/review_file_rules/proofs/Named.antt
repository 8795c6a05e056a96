-- Things by their names: what is found among them, that their names ascend, and what stays true of each of them.
use Rattle.std.proofs.Common.{◌≡◌, ℕ, Bool, true, false, cond, Less, Equal, Greater, nat_cmp, is_eq, List, [], ◌∷◌, ◌++◌, map, filter, Option, Some, None, refl, ap, sym, subst, ◌∙◌, find, fold, ◌&&◌, ◌||◌, bytes_eq}
use Rattle.std.proofs.lemmas.Bool.{cond_both, and_parts, or_parts}
use Rattle.std.proofs.lemmas.{Cmp.nat_list_cmp_total, Map.Text.is_eq-slice_cmp, Slice.Eq.bytes_eq-Decides}
use Rattle.std.specs.{Cmp.Lexicographic.slice_cmp, List.AllByRecursion, List.list_all, List.list_any}
use Rattle.std.specs.{List.Sorted.IsStrictlySortedBy, Option.option_or}
use Rattle.std.specs.{Ordering.match_ordering, Ordering.ordering_reverse, declared.cmp.Ordering.Ordering}
use Rattle.review_file_rules.specs.Inherited.{put_by, by_name}

abbrev pub Sorted : List (List ℕ) → Type 0
Sorted ns = IsStrictlySortedBy (slice_cmp nat_cmp) ns

-- ---- names

pub alike : (a b : List ℕ) → bytes_eq a b ≡ true → a ≡ b
alike a b h = (bytes_eq-Decides a b).0 h

pub itself : (a : List ℕ) → bytes_eq a a ≡ true
itself a = (bytes_eq-Decides a a).1 refl

equal_names : (a b : List ℕ) → slice_cmp nat_cmp a b ≡ Equal → a ≡ b
equal_names a b h = alike a b (sym (is_eq-slice_cmp a b) ∙ ap is_eq h)

-- names of which one is below the other are two
below_apart : (a b : List ℕ) → slice_cmp nat_cmp a b ≡ Less → bytes_eq a b ≡ false
below_apart a b h = sym (is_eq-slice_cmp a b) ∙ ap is_eq h

above_apart : (a b : List ℕ) → slice_cmp nat_cmp a b ≡ Greater → bytes_eq a b ≡ false
above_apart a b h = sym (is_eq-slice_cmp a b) ∙ ap is_eq h

turned : (a b : List ℕ) → slice_cmp nat_cmp a b ≡ Greater → slice_cmp nat_cmp b a ≡ Less
turned a b h = nat_list_cmp_total.antisymm b a ∙ ap ordering_reverse h

pub no_both : (b : Bool) → b ≡ true → b ≡ false → ⊥
no_both true h g = let e : true ≡ false = g in absurd (cc)
no_both false h g = let e : false ≡ true = h in absurd (cc)

-- two names that are both a third are one
no_three : (a b q : List ℕ) → bytes_eq a b ≡ false → bytes_eq a q ≡ true → bytes_eq b q ≡ true → ⊥
no_three a b q apart h g = no_both (bytes_eq a b) ((bytes_eq-Decides a b).1 (alike a q h ∙ sym (alike b q g))) apart

cond_twice : {A : Type 0} (b c : Bool) (x y f : A) → b ≡ c → cond b x f ≡ cond b x (cond c y f)
cond_twice true c x y f e = refl
cond_twice false true x y f e = let n : false ≡ true = e in absurd (cc)
cond_twice false false x y f e = refl

cond_swap : {A : Type 0} (b c : Bool) (x y f : A) → (b ≡ true → c ≡ true → ⊥) → cond c y (cond b x f) ≡ cond b x (cond c y f)
cond_swap true true x y f apart = absurd (apart refl refl)
cond_swap true false x y f apart = refl
cond_swap false true x y f apart = refl
cond_swap false false x y f apart = refl

module _ {X : Type 0} (name : X → List ℕ) where
  -- the thing of a name
  abbrev pub named : List ℕ → List X → Option X
  named q xs = find (λ x. bytes_eq (name x) q) xs

  names : List X → List (List ℕ)
  names xs = map name xs

  -- what is found where a thing is put
  pub named_put : (q : List ℕ) (ys : List X) (x : X) → named q (put_by name ys x) ≡ cond (bytes_eq (name x) q) (Some x) (named q ys)
  named_put q [] x = refl
  named_put q (y ∷ ys) x = by (slice_cmp nat_cmp (name x) (name y)) refl (named_put q ys x)
    where
      by : (o : Ordering) → slice_cmp nat_cmp (name x) (name y) ≡ o → named q (put_by name ys x) ≡ cond (bytes_eq (name x) q) (Some x) (named q ys) →
          named q (match_ordering o (x ∷ y ∷ ys) (x ∷ ys) (y ∷ put_by name ys x)) ≡ cond (bytes_eq (name x) q) (Some x) (cond (bytes_eq (name y) q) (Some y) (named q ys))
      by Less h later = refl
      by Equal h later = cond_twice (bytes_eq (name x) q) (bytes_eq (name y) q) (Some x) (Some y) (named q ys) (ap (λ n. bytes_eq n q) (equal_names (name x) (name y) h))
      by Greater h later =
          ap (cond (bytes_eq (name y) q) (Some y)) later
          ∙ cond_swap (bytes_eq (name x) q) (bytes_eq (name y) q) (Some x) (Some y) (named q ys) (no_three (name x) (name y) q (above_apart (name x) (name y) h))

  -- the last thing of a name, where this was found before
  abbrev pub last_named : List ℕ → Option X → List X → Option X
  last_named q before [] = before
  last_named q before (x ∷ xs) = last_named q (cond (bytes_eq (name x) q) (Some x) before) xs

  named_fold : (q : List ℕ) (acc xs : List X) → named q (fold (put_by name) acc xs) ≡ last_named q (named q acc) xs
  named_fold q acc [] = refl
  named_fold q acc (x ∷ xs) = named_fold q (put_by name acc x) xs ∙ ap (λ o. last_named q o xs) (named_put q acc x)

  last_append : (q : List ℕ) (before : Option X) (xs ys : List X) → last_named q before (xs ++ ys) ≡ last_named q (last_named q before xs) ys
  last_append q before [] ys = refl
  last_append q before (x ∷ xs) ys = last_append q (cond (bytes_eq (name x) q) (Some x) before) xs ys

  -- no later thing has the name of one that is below all of them
  none_above : (k q : List ℕ) (xs : List X) → AllByRecursion (λ n. slice_cmp nat_cmp k n ≡ Less) (map name xs) → bytes_eq k q ≡ true → named q xs ≡ None
  none_above k q [] above h = refl
  none_above k q (x ∷ xs) above h = by (bytes_eq (name x) q) refl (none_above k q xs above.1 h)
    where
      by : (b : Bool) → bytes_eq (name x) q ≡ b → named q xs ≡ None → cond b (Some x) (named q xs) ≡ None
      by true g later = absurd (no_three k (name x) q (below_apart k (name x) above.0) h g)
      by false g later = later

  last_found : (q : List ℕ) (before : Option X) (xs : List X) → Sorted (map name xs) → last_named q before xs ≡ option_or (named q xs) before
  unfolding IsStrictlySortedBy
  last_found q before [] s = refl
  last_found q before (x ∷ xs) s = last_found q (cond (bytes_eq (name x) q) (Some x) before) xs s.1 ∙ by (bytes_eq (name x) q) refl
    where
      by : (b : Bool) → bytes_eq (name x) q ≡ b → option_or (named q xs) (cond b (Some x) before) ≡ option_or (cond b (Some x) (named q xs)) before
      by true h = ap (λ o. option_or o (Some x)) (none_above (name x) q xs s.0 h)
      by false h = refl

  or_none : (o : Option X) → option_or o None ≡ o
  or_none None = refl
  or_none (Some x) = refl

  -- The thing of a name is that of the second list, or else that of the first.
  pub named_both : (q : List ℕ) (xs ys : List X) → Sorted (map name xs) → Sorted (map name ys) → named q (by_name name (xs ++ ys)) ≡ option_or (named q ys) (named q xs)
  named_both q xs ys s t =
      named_fold q [] (xs ++ ys) ∙ (last_append q None xs ys ∙ (last_found q (last_named q None xs) ys t ∙ ap (option_or (named q ys)) (last_found q None xs s ∙ or_none (named q xs))))

  -- ---- what is true of each

  pub each_put : (P : X → Type 0) (ys : List X) (x : X) → AllByRecursion P ys → P x → AllByRecursion P (put_by name ys x)
  each_put P [] x all is = (is, tt)
  each_put P (y ∷ ys) x all is = by (slice_cmp nat_cmp (name x) (name y)) (each_put P ys x all.1 is)
    where
      by : (o : Ordering) → AllByRecursion P (put_by name ys x) → AllByRecursion P (match_ordering o (x ∷ y ∷ ys) (x ∷ ys) (y ∷ put_by name ys x))
      by Less later = (is, (all.0, all.1))
      by Equal later = (is, all.1)
      by Greater later = (all.0, later)

  pub each_fold : (P : X → Type 0) (acc xs : List X) → AllByRecursion P acc → AllByRecursion P xs → AllByRecursion P (fold (put_by name) acc xs)
  each_fold P acc [] all rest = all
  each_fold P acc (x ∷ xs) all rest = each_fold P (put_by name acc x) xs (each_put P acc x all rest.0) rest.1

  pub each_append : (P : X → Type 0) (xs ys : List X) → AllByRecursion P xs → AllByRecursion P ys → AllByRecursion P (xs ++ ys)
  each_append P [] ys all rest = rest
  each_append P (x ∷ xs) ys all rest = (all.0, each_append P xs ys all.1 rest)

  pub each_both : (P : X → Type 0) (xs ys : List X) → AllByRecursion P xs → AllByRecursion P ys → AllByRecursion P (by_name name (xs ++ ys))
  each_both P xs ys all rest = each_fold P [] (xs ++ ys) tt (each_append P xs ys all rest)

  pub each_kept : (P : X → Type 0) (p : X → Bool) (xs : List X) → AllByRecursion P xs → AllByRecursion P (filter p xs)
  each_kept P p [] all = tt
  each_kept P p (x ∷ xs) all =
      let later = each_kept P p xs all.1 in cond_both (p x) (x ∷ filter p xs) (filter p xs) (AllByRecursion P) (λ t. (all.0, later)) (λ f. later)

  -- ---- order

  names_put : (P : List ℕ → Type 0) (ys : List X) (x : X) → AllByRecursion P (map name ys) → P (name x) → AllByRecursion P (map name (put_by name ys x))
  names_put P [] x all is = (is, tt)
  names_put P (y ∷ ys) x all is = by (slice_cmp nat_cmp (name x) (name y)) (names_put P ys x all.1 is)
    where
      by : (o : Ordering) → AllByRecursion P (map name (put_by name ys x)) → AllByRecursion P (map name (match_ordering o (x ∷ y ∷ ys) (x ∷ ys) (y ∷ put_by name ys x)))
      by Less later = (is, (all.0, all.1))
      by Equal later = (is, all.1)
      by Greater later = (all.0, later)

  all_above : (a b : List ℕ) (ns : List (List ℕ)) → slice_cmp nat_cmp a b ≡ Less → AllByRecursion (λ n. slice_cmp nat_cmp b n ≡ Less) ns → AllByRecursion (λ n. slice_cmp nat_cmp a n ≡ Less) ns
  all_above a b [] less all = tt
  all_above a b (n ∷ ns) less all = (nat_list_cmp_total.trans a b n less all.0, all_above a b ns less all.1)

  pub sorted_put : (ys : List X) (x : X) → Sorted (map name ys) → Sorted (map name (put_by name ys x))
  unfolding IsStrictlySortedBy
  sorted_put [] x s = (tt, tt)
  sorted_put (y ∷ ys) x s = by (slice_cmp nat_cmp (name x) (name y)) refl (sorted_put ys x s.1)
    where
      by : (o : Ordering) → slice_cmp nat_cmp (name x) (name y) ≡ o → Sorted (map name (put_by name ys x)) → Sorted (map name (match_ordering o (x ∷ y ∷ ys) (x ∷ ys) (y ∷ put_by name ys x)))
      by Less h later = ((h, all_above (name x) (name y) (map name ys) h s.0), s)
      by Equal h later = (subst (λ n. AllByRecursion (λ m. slice_cmp nat_cmp n m ≡ Less) (map name ys)) (sym (equal_names (name x) (name y) h)) s.0, s.1)
      by Greater h later = (names_put (λ n. slice_cmp nat_cmp (name y) n ≡ Less) ys x s.0 (turned (name x) (name y) h), later)

  sorted_fold : (acc xs : List X) → Sorted (map name acc) → Sorted (map name (fold (put_by name) acc xs))
  sorted_fold acc [] s = s
  sorted_fold acc (x ∷ xs) s = sorted_fold (put_by name acc x) xs (sorted_put acc x s)

  -- Things by their names are in order, and each name stands once.
  pub sorted_by_name : (xs : List X) → Sorted (map name (by_name name xs))
  unfolding IsStrictlySortedBy
  sorted_by_name xs = sorted_fold [] xs tt

  names_kept : (P : List ℕ → Type 0) (p : X → Bool) (xs : List X) → AllByRecursion P (map name xs) → AllByRecursion P (map name (filter p xs))
  names_kept P p [] all = tt
  names_kept P p (x ∷ xs) all =
      let later = names_kept P p xs all.1 in cond_both (p x) (x ∷ filter p xs) (filter p xs) (λ l. AllByRecursion P (map name l)) (λ t. (all.0, later)) (λ f. later)

  pub sorted_kept : (p : X → Bool) (xs : List X) → Sorted (map name xs) → Sorted (map name (filter p xs))
  unfolding IsStrictlySortedBy
  sorted_kept p [] s = tt
  sorted_kept p (x ∷ xs) s =
      let later = sorted_kept p xs s.1 in
      cond_both (p x) (x ∷ filter p xs) (filter p xs) (λ l. Sorted (map name l)) (λ t. (names_kept (λ n. slice_cmp nat_cmp (name x) n ≡ Less) p xs s.0, later)) (λ f. later)

  -- ---- tests

  -- each thing is found by its name
  pub finds_each : (xs : List X) → Sorted (map name xs) → (P : X → Type 0) → ((q : List ℕ) (x : X) → named q xs ≡ Some x → bytes_eq (name x) q ≡ true → P x) → AllByRecursion P xs
  unfolding IsStrictlySortedBy
  finds_each [] s P found = tt
  finds_each (x ∷ xs) s P found = (
    found (name x) x (ap (λ b. cond b (Some x) (named (name x) xs)) (itself (name x))) (itself (name x)),
    finds_each xs s.1 P (λ q y is named. found q y (by q y is (bytes_eq (name x) q) refl) named),
  )
    where
      by : (q : List ℕ) (y : X) → named q xs ≡ Some y → (b : Bool) → bytes_eq (name x) q ≡ b → cond b (Some x) (named q xs) ≡ Some y
      by q y is true h = absurd (let none : None ≡ Some y = sym (none_above (name x) q xs s.0 h) ∙ is in cc)
      by q y is false h = is

  -- what is found has the name
  pub found_named : (q : List ℕ) (xs : List X) (x : X) → named q xs ≡ Some x → bytes_eq (name x) q ≡ true
  found_named q [] x is = absurd (let none : None ≡ Some x = is in cc)
  found_named q (y ∷ ys) x is = by (bytes_eq (name y) q) refl (λ e. found_named q ys x e) is
    where
      by : (b : Bool) → bytes_eq (name y) q ≡ b → (named q ys ≡ Some x → bytes_eq (name x) q ≡ true) → cond b (Some y) (named q ys) ≡ Some x → bytes_eq (name x) q ≡ true
      by true h later e = let same : y ≡ x = cc in subst (λ z. bytes_eq (name z) q ≡ true) same h
      by false h later e = later e

  -- what is true of each is true of what is found
  pub found_is : (P : X → Type 0) (q : List ℕ) (xs : List X) (x : X) → AllByRecursion P xs → named q xs ≡ Some x → P x
  found_is P q [] x all is = absurd (let none : None ≡ Some x = is in cc)
  found_is P q (y ∷ ys) x all is = by (bytes_eq (name y) q) (λ e. found_is P q ys x all.1 e) is
    where
      by : (b : Bool) → (named q ys ≡ Some x → P x) → cond b (Some y) (named q ys) ≡ Some x → P x
      by true later e = let same : y ≡ x = cc in subst P same all.0
      by false later e = later e

-- ---- tests of all and of some

pub all_true : {X : Type 0} (p : X → Bool) (xs : List X) → list_all p xs ≡ true → AllByRecursion (λ x. p x ≡ true) xs
all_true p [] h = tt
all_true p (x ∷ xs) h = let t = and_parts (p x) (list_all p xs) h in (t.0, all_true p xs t.1)

pub true_all : {X : Type 0} (p : X → Bool) (xs : List X) → AllByRecursion (λ x. p x ≡ true) xs → list_all p xs ≡ true
true_all p [] all = refl
true_all p (x ∷ xs) all = ap (λ b. b && list_all p xs) all.0 ∙ true_all p xs all.1

pub none_true : {X : Type 0} (p : X → Bool) (xs : List X) → list_any p xs ≡ false → AllByRecursion (λ x. p x ≡ false) xs
none_true p [] h = tt
none_true p (x ∷ xs) h = let t = or_parts (p x) (list_any p xs) h in (t.0, none_true p xs t.1)

pub true_none : {X : Type 0} (p : X → Bool) (xs : List X) → AllByRecursion (λ x. p x ≡ false) xs → list_any p xs ≡ false
true_none p [] all = refl
true_none p (x ∷ xs) all = ap (λ b. b || list_any p xs) all.0 ∙ true_none p xs all.1
