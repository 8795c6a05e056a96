-- What stays known of counts.
use Rattle.std.proofs.lemmas.Slice.Eq.{bytes_eq-Decides}
use Rattle.review_sql_tables.proofs.Common.{◌≡◌, ◌∙◌, ◌≤◌, ◌+◌, ℕ, suc, nat_lt, List, Bool, true, false, Option, Some, None, is_some, cond, Result, Ok, Err, OnOk, OnErr, IfSome, refl, ap, sym, inl, inr, subst, arith, cases_Bool, leb_tells, nat_list_cmp_total, tied_itself, exact_bytes, same_Some, is_at, slice_cmp, nat_cmp, is_eq, bytes_eq, AllocError, row_in, as_counted}
use Rattle.review_machine_rows.specs.Rows.{Row}
use Rattle.review_sql_records.proofs.Common.{equal_is, most_bases, BaseKey, BasesOf, AnswerRow, Tables, count_put, IsCommitted, Delta, PlaceKey, Put}
use Rattle.review_sql_lookups.specs.{Loads.AreBasesBounded, Loads.Bounds, Loads.Grows, declared.counts.Bound.Bound}

few : (n : ℕ) (b there : Bool) → (n ≤ cond b (cond there n (n + 1)) n) × (cond b (cond there n (n + 1)) n ≤ n + 1)
few n true true = (omega arith, omega arith)
few n true false = (omega arith, omega arith)
few n false there = (omega arith, omega arith)

-- one row that is put makes a count greater by one at most
one_more : {K X : Type 0} (test : K → Bool) (row : K → Option Row) (n : ℕ) (put : Option (Put K X)) → (n ≤ count_put test put row n) × (count_put test put row n ≤ n + 1)
one_more test row n None = (omega arith, omega arith)
one_more test row n (Some put) = few n (test put.key) (is_some (row put.key))

abbrev base_row : Tables → PlaceKey → Option Row
base_row t k = t.row (BaseKey k.project k.branch k.place)

abbrev is_of : List ℕ → PlaceKey → Bool
is_of p k = bytes_eq k.project p

-- keys that are at one place are the same
alike : (project p : List ℕ) → is_at (slice_cmp nat_cmp project) p ≡ true → project ≡ p
alike project p here = exact_bytes project p (equal_is (slice_cmp nat_cmp project p) here)

apart : (project p : List ℕ) → is_at (slice_cmp nat_cmp project) p ≡ false → bytes_eq project p ≡ false
apart project p other = elim (cases_Bool (bytes_eq project p)) [
  | inl same ↦
      let e : project ≡ p = (bytes_eq-Decides project p).0 same in
      let yes : is_at (slice_cmp nat_cmp project) p ≡ true = subst (λ q. is_at (slice_cmp nat_cmp project) q ≡ true) e (ap is_eq (tied_itself nat_list_cmp_total project)) in
      let no : true ≡ false = sym yes ∙ other in absurd (cc)
  | inr is ↦ is
]

-- a request is stored
pub one_request_more : (delta : Delta) (kept : AnswerRow) (old new : Tables) (more : Option ℕ) → IfSome more (λ n. n ≡ old.requests + 1) → IsCommitted old delta kept new → IfSome more (λ n. n ≡ new.requests)
one_request_more delta kept old new None is it = tt
one_request_more delta kept old new (Some n) is it = is ∙ sym it.requests

-- a base that is put is of one project
pub grown : (delta : Delta) (put : Put PlaceKey (List ℕ)) (kept : AnswerRow) (old new : Tables) → delta.base ≡ Some put → IsCommitted old delta kept new → Grows put.key.project old new
grown delta put kept old new is it = record {
  more = λ p. subst (λ m. (old.count (BasesOf p) ≤ m) × (m ≤ old.count (BasesOf p) + 1)) (sym (it.count_is (BasesOf p))) (one_more (is_of p) (base_row old) (old.count (BasesOf p)) delta.base);
  others = λ p other.
      let n = old.count (BasesOf p) in
      it.count_is (BasesOf p) ∙ (ap (λ b. count_put (is_of p) b (base_row old) n) is ∙ ap (λ b. cond b (cond (is_some (base_row old put.key)) n (n + 1)) n) (apart put.key.project p other));
}

-- where none is put, no project has more or less
pub still : (rows : List (List ℕ × Bound)) (delta : Delta) (kept : AnswerRow) (old new : Tables) → delta.base ≡ None → IsCommitted old delta kept new → AreBasesBounded rows old → AreBasesBounded rows new
still rows delta kept old new none it bounded p bound at =
    subst (Bounds most_bases bound) (sym (it.count_is (BasesOf p) ∙ ap (λ b. count_put (is_of p) b (base_row old) (old.count (BasesOf p))) none)) (bounded p bound at)

-- what is known of one project is set, or forgotten
pub renewed : (known more : List (List ℕ × Bound)) (project : List ℕ) (x : Option Bound)
    → ((p : List ℕ) → row_in (slice_cmp nat_cmp) more p ≡ cond (is_at (slice_cmp nat_cmp project) p) x (row_in (slice_cmp nat_cmp) known p))
    → (old new : Tables) → AreBasesBounded known old → ((p : List ℕ) → is_at (slice_cmp nat_cmp project) p ≡ false → new.count (BasesOf p) ≡ old.count (BasesOf p))
    → ((bound : Bound) → x ≡ Some bound → Bounds most_bases bound (new.count (BasesOf project))) → AreBasesBounded more new
renewed known more project x rows old new bounded others so p bound at = elim (cases_Bool (is_at (slice_cmp nat_cmp project) p)) [
  | inl here ↦ let e = rw here at (rows p) in subst (λ q. Bounds most_bases bound (new.count (BasesOf q))) (alike project p here) (so bound (sym e ∙ at))
  | inr other ↦ let e = rw other at (rows p) in subst (Bounds most_bases bound) (sym (others p other)) (bounded p bound (sym e ∙ at))
]

-- what is known of one project is set, if there is memory for it
pub learnt : (known more : List (List ℕ × Bound)) (project : List ℕ) (x : Bound) (r : Result (Unit {0}) AllocError)
    → OnOk r ((p : List ℕ) → row_in (slice_cmp nat_cmp) more p ≡ cond (is_at (slice_cmp nat_cmp project) p) (Some x) (row_in (slice_cmp nat_cmp) known p))
    → OnErr r (more ≡ known) → (t : Tables) → AreBasesBounded known t → Bounds most_bases x (t.count (BasesOf project)) → AreBasesBounded more t
learnt known more project x (Ok u) put same t bounded so = renewed known more project (Some x) put t t bounded (λ p other. refl) (λ bound e. subst (λ b. Bounds most_bases b (t.count (BasesOf project))) (same_Some x bound e) so)
learnt known more project x (Err e) put same t bounded so = λ p bound at. bounded p bound (subst (λ (rows : List (List ℕ × Bound)). row_in (slice_cmp nat_cmp) rows p ≡ Some bound) same at)

-- a project of which nothing is known
pub unknown : (known : List (List ℕ × Bound)) (project : List ℕ) → row_in (slice_cmp nat_cmp) known project ≡ None → (p : List ℕ)
    → row_in (slice_cmp nat_cmp) known p ≡ cond (is_at (slice_cmp nat_cmp project) p) None (row_in (slice_cmp nat_cmp) known p)
unknown known project none p = elim (cases_Bool (is_at (slice_cmp nat_cmp project) p)) [
  | inl here ↦ rw here (subst (λ q. row_in (slice_cmp nat_cmp) known q ≡ None) (alike project p here) none)
  | inr other ↦ rw other refl
]

-- a count is below a limit where what SQL tells of it is
pub counted_below : (most n count : ℕ) → most ≤ 1000000 → as_counted n ≡ count → nat_lt n most ≡ nat_lt count most
counted_below most n count fits is = elim (leb_tells (suc n) most) [
  | inl few ↦ elim (leb_tells (suc count) most) [ inl less ↦ few.0 ∙ sym less.0 | inr other ↦ absurd (omega (arith, fits, is, few.1, other.1)) ]
  | inr many ↦ elim (leb_tells (suc count) most) [ inl less ↦ absurd (omega (arith, fits, is, many.1, less.1)) | inr other ↦ many.0 ∙ sym other.0 ]
]
