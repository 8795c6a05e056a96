-- What a file or a base that is put leaves, and what a delta without one does.
use Rattle.std.proofs.Common.{◌≡◌, ◌∙◌, ◌&&◌, ◌==◌, ℕ, List, Option, None, true, refl, ap, is_eq, nat_cmp, bytes_eq}
use Rattle.std.proofs.lemmas.Map.Lookups.{CmpEqualImpliesEq, exact_unsigned, exact_bytes}
use Rattle.review_table.proofs.Places.{both_equal}
use Rattle.review_machine_rows.proofs.Common.{Delta, IsTotalOrder, Less, Ordering, PlaceKey, is_at, is_eq-slice_cmp, nat_cmp_total, nat_list_cmp_total, on_total, ordering_then, slice_cmp, then_total, unsigned_tied}
use Rattle.review_machine_rows.specs.Rows.{Key, FileKey, BaseKey, Row, FileRow, BaseRow, Projects, BasesOf, place_cmp, after, after_put, count_after, count_put}

-- ---- places of branches as keys

pub is_eq-then : (a b : Ordering) → is_eq (ordering_then a b) ≡ (is_eq a && is_eq b)
is_eq-then Less b = refl
is_eq-then _ b = refl

-- a place, asked by its parts
pub at_place_of : (k : PlaceKey) (p b : List ℕ) (n : ℕ) → is_at (place_cmp k) (record { project = p; branch = b; place = n }) ≡ (bytes_eq k.project p && (bytes_eq k.branch b && (k.place == n)))
at_place_of k p b n =
    is_eq-then (slice_cmp nat_cmp k.project p) (ordering_then (slice_cmp nat_cmp k.branch b) (nat_cmp k.place n))
    ∙ (λ i. is_eq-slice_cmp k.project p i
    && (is_eq-then (slice_cmp nat_cmp k.branch b) (nat_cmp k.place n) ∙ (λ j. is_eq-slice_cmp k.branch b j && unsigned_tied k.place n j)) i)

pub exact_place : CmpEqualImpliesEq place_cmp
exact_place x y e =
    let one = both_equal (slice_cmp nat_cmp x.project y.project) (ordering_then (slice_cmp nat_cmp x.branch y.branch) (nat_cmp x.place y.place)) e in
    let two = both_equal (slice_cmp nat_cmp x.branch y.branch) (nat_cmp x.place y.place) one.1 in
    let p = exact_bytes x.project y.project one.0 in
    let b = exact_bytes x.branch y.branch two.0 in
    let n = exact_unsigned x.place y.place two.1 in
    λ i. record { project = p i; branch = b i; place = n i }

pub place_total : IsTotalOrder place_cmp
place_total =
    then_total (on_total (λ (k : PlaceKey). k.project) nat_list_cmp_total)
    (then_total (on_total (λ (k : PlaceKey). k.branch) nat_list_cmp_total) (on_total (λ (k : PlaceKey). k.place) nat_cmp_total))

-- ---- a delta that puts no file, or no base

module _ (delta : Delta) where
  pub no_file : delta.file ≡ None → (p : List ℕ) (was : Option Row) → after delta (FileKey p) was ≡ was
  no_file none p was = ap (λ o. after_put (slice_cmp nat_cmp) FileRow o p was) none

  pub no_project : delta.file ≡ None → (row : Key → Option Row) (n : ℕ) → count_after delta row Projects n ≡ n
  no_project none row n = ap (λ o. count_put (λ p. true) o (λ p. row (FileKey p)) n) none

  pub no_base : delta.base ≡ None → (p b : List ℕ) (k : ℕ) (was : Option Row) → after delta (BaseKey p b k) was ≡ was
  no_base none p b k was = ap (λ o. after_put place_cmp BaseRow o (record { project = p; branch = b; place = k }) was) none

  pub no_base_more : delta.base ≡ None → (row : Key → Option Row) (project : List ℕ) (n : ℕ) → count_after delta row (BasesOf project) n ≡ n
  no_base_more none row project n = ap (λ o. count_put (λ (k : PlaceKey). bytes_eq k.project project) o (λ (k : PlaceKey). row (BaseKey k.project k.branch k.place)) n) none
