-- Where a thing is put among others by its name.
use Rattle.std.proofs.Common.{◌≡◌, ℕ, suc, set, Bool, true, false, Less, Equal, Greater, nat_cmp, is_eq, List, [], ◌∷◌, ◌++◌, cond, refl, ap, sym, ◌∙◌, insert, is_lt, fold, slice_get, bytes_eq}
use Rattle.std.proofs.lemmas.{Cmp.nat_list_cmp_total, Map.Text.is_eq-slice_cmp}
use Rattle.std.specs.{Cmp.Lexicographic.slice_cmp, Option.option_map_or}
use Rattle.std.specs.{Ordering.match_ordering, Ordering.ordering_reverse, declared.cmp.Ordering.Ordering}
use Rattle.{review_file_rules.specs.Inherited.put_by, review_file_lines.specs.inner.Before.count_before}

below : (o : Ordering) → is_lt o ≡ true → ordering_reverse o ≡ Greater
below Less h = refl
below _ h = let e : false ≡ true = h in absurd (cc)

-- not below and not equal is above
above : (o : Ordering) → is_lt o ≡ false → is_eq o ≡ false → ordering_reverse o ≡ Less
above Less h g = let e : true ≡ false = h in absurd (cc)
above Equal h g = let e : true ≡ false = g in absurd (cc)
above Greater h g = refl

equal : (o : Ordering) → is_eq o ≡ true → ordering_reverse o ≡ Equal
equal Equal h = refl
equal _ h = let e : false ≡ true = h in absurd (cc)

module _ {X : Type 0} (name : X → List ℕ) where
  turned : (x y : X) → slice_cmp nat_cmp (name x) (name y) ≡ ordering_reverse (slice_cmp nat_cmp (name y) (name x))
  turned x y = nat_list_cmp_total.antisymm (name x) (name y)

  put_here : (y : X) (ys : List X) (x : X) (o : Ordering) → slice_cmp nat_cmp (name x) (name y) ≡ o → put_by name (y ∷ ys) x ≡ match_ordering o (x ∷ y ∷ ys) (x ∷ ys) (y ∷ put_by name ys x)
  put_here y ys x o is = ap (λ c. match_ordering c (x ∷ y ∷ ys) (x ∷ ys) (y ∷ put_by name ys x)) is

  -- whether the first that isn't below a name has it
  abbrev pub is_next : List ℕ → List X → Bool
  is_next q ys = option_map_or (λ y. bytes_eq (name y) q) (slice_get ys (count_before name q ys)) false

  -- a thing that replaces the first that isn't below it, which has its name
  pub put_replaced : (ys : List X) (x : X) → is_next (name x) ys ≡ true → set ys (count_before name (name x) ys) x ≡ put_by name ys x
  put_replaced [] x same = let e : false ≡ true = same in absurd (cc)
  put_replaced (y ∷ ys) x same = by (is_lt (slice_cmp nat_cmp (name y) (name x))) refl (λ s. put_replaced ys x s) same
    where
      by : (b : Bool) → is_lt (slice_cmp nat_cmp (name y) (name x)) ≡ b → (is_next (name x) ys ≡ true → set ys (count_before name (name x) ys) x ≡ put_by name ys x) →
          option_map_or (λ z. bytes_eq (name z) (name x)) (slice_get (y ∷ ys) (cond b (suc (count_before name (name x) ys)) 0)) false ≡ true →
          set (y ∷ ys) (cond b (suc (count_before name (name x) ys)) 0) x ≡ put_by name (y ∷ ys) x
      by true is later s = ap (λ l. y ∷ l) (later s) ∙ sym (put_here y ys x Greater (turned x y ∙ below (slice_cmp nat_cmp (name y) (name x)) is))
      by false is later s = sym (put_here y ys x Equal (turned x y ∙ equal (slice_cmp nat_cmp (name y) (name x)) (is_eq-slice_cmp (name y) (name x) ∙ s)))

  -- a thing that is inserted before the first that isn't below it, which has another name
  pub put_inserted : (ys : List X) (x : X) → is_next (name x) ys ≡ false → insert ys (count_before name (name x) ys) x ≡ put_by name ys x
  put_inserted [] x other = refl
  put_inserted (y ∷ ys) x other = by (is_lt (slice_cmp nat_cmp (name y) (name x))) refl (λ s. put_inserted ys x s) other
    where
      by : (b : Bool) → is_lt (slice_cmp nat_cmp (name y) (name x)) ≡ b → (is_next (name x) ys ≡ false → insert ys (count_before name (name x) ys) x ≡ put_by name ys x) →
          option_map_or (λ z. bytes_eq (name z) (name x)) (slice_get (y ∷ ys) (cond b (suc (count_before name (name x) ys)) 0)) false ≡ false →
          insert (y ∷ ys) (cond b (suc (count_before name (name x) ys)) 0) x ≡ put_by name (y ∷ ys) x
      by true is later s = ap (λ l. y ∷ l) (later s) ∙ sym (put_here y ys x Greater (turned x y ∙ below (slice_cmp nat_cmp (name y) (name x)) is))
      by false is later s = sym (put_here y ys x Less (turned x y ∙ above (slice_cmp nat_cmp (name y) (name x)) is (is_eq-slice_cmp (name y) (name x) ∙ s)))

  -- one after the other, the first list and then the second
  pub fold_append : (acc xs ys : List X) → fold (put_by name) acc (xs ++ ys) ≡ fold (put_by name) (fold (put_by name) acc xs) ys
  fold_append acc [] ys = refl
  fold_append acc (x ∷ xs) ys = fold_append (put_by name acc x) xs ys
