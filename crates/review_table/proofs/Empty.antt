-- Which places have no row.
use Rattle.std.proofs.Common.{◌≡◌, ℕ, ◌+◌, ◌<◌, suc, List, [], ◌∷◌, ◌++◌, Option, Some, None, IfSome, Bool, true, false, cond, ◌||◌, refl, ap, sym, ◌∙◌, length, take, drop, get_or}
use Rattle.std.proofs.Math.Bool.{or_assoc, or-false}
use Rattle.std.proofs.lemmas.{Bool.or_left, Bool.or_parts, Cmp.tied_itself}
use Rattle.std.proofs.lemmas.List.{take-append-drop, take_more, Elements.All-head, Elements.All-tail}
use Rattle.std.proofs.lemmas.Map.{lookup-none, Entries.none_past_head, Keys.IsDistinct-tail}
use Rattle.std.specs.{BTreeMap.is_at, Cmp.IsTotalOrder, Cmp.eq_by_cmp_equiv, List.All, List.IsDistinct, Map.keys_of}
use Rattle.std.specs.Option.{IsSome, is_some}
use Rattle.std.specs.{Ordering.eq_by_cmp, Prelude.option_map, declared.cmp.Ordering.Ordering}
use Rattle.review_table.proofs.{Places.changed_pushed, Plain.some_or}
use Rattle.review_table.specs.Rows.{flat, rows_of, changed, row_edit_of, after_row_edit, is_named, place_at, HasNoEmptyPlace}
use Rattle.review_table.specs.declared.table.RowEdit.{RowEdit}

-- ---- equal keys have one place

-- where a place is only empty if it is asked for, it is not once it was dropped, unless it has a row
pub released : {X : Type 0} (b : Bool) (row : Option X) (was now : Option (Option X)) → now ≡ cond b (option_map Some row) was → (was ≡ Some None → b ≡ true) → now ≡ Some None → ⊥
released true None was now is only empty = absurd (let none : None ≡ Some None = sym is ∙ empty in cc)
released true (Some v) was now is only empty = absurd (let none : Some (Some v) ≡ Some None = sym is ∙ empty in cc)
released false row was now is only empty = let other : false ≡ true = only (sym is ∙ empty) in cc

pub reserved : {X : Type 0} (b : Bool) (row : Option X) (was now : Option (Option X)) → now ≡ cond b (Some row) was → (was ≡ Some None → ⊥) → now ≡ Some None → b ≡ true
reserved true row was now is full empty = refl
reserved false row was now is full empty = absurd (full (sym is ∙ empty))

-- ---- keys that edits name

pub named_append : {K X : Type 0} (cmp : K → K → Ordering) (cs ds : List (RowEdit K X)) (q : K) → is_named cmp (cs ++ ds) q ≡ is_named cmp cs q || is_named cmp ds q
named_append cmp [] ds q = refl
named_append cmp (c ∷ cs) ds q =
    some_or (is_at (cmp c.key) q) c.row (row_edit_of cmp (cs ++ ds) q) ∙ (ap (λ b. is_at (cmp c.key) q || b) (named_append cmp cs ds q)
    ∙ (sym (or_assoc (is_at (cmp c.key) q) (is_named cmp cs q) (is_named cmp ds q)) ∙ ap (λ b. b || is_named cmp ds q) (sym (some_or (is_at (cmp c.key) q) c.row (row_edit_of cmp cs q)))))

named_one : {K X : Type 0} (cmp : K → K → Ordering) (c : RowEdit K X) (q : K) → is_named cmp (c ∷ []) q ≡ is_at (cmp c.key) q
named_one cmp c q = some_or (is_at (cmp c.key) q) c.row None ∙ or-false (is_at (cmp c.key) q)

pub named_more : {K X : Type 0} (cmp : K → K → Ordering) (cs : List (RowEdit K X)) (i : ℕ) (d c : RowEdit K X) (q : K) → i < length cs → get_or cs i d ≡ c →
    is_named cmp (take (i + 1) cs) q ≡ is_named cmp (take i cs) q || is_at (cmp c.key) q
named_more cmp cs i d c q lt is =
    ap (λ xs. is_named cmp xs q) (take_more cs i d lt) ∙ (named_append cmp (take i cs) (get_or cs i d ∷ []) q
    ∙ (ap (λ x. is_named cmp (take i cs) q || is_named cmp (x ∷ []) q) is ∙ ap (λ b. is_named cmp (take i cs) q || b) (named_one cmp c q)))

named_front : {K X : Type 0} (cmp : K → K → Ordering) (cs : List (RowEdit K X)) (i : ℕ) (q : K) → is_named cmp cs q ≡ is_named cmp (take i cs) q || is_named cmp (drop i cs) q
named_front cmp cs i q = ap (λ xs. is_named cmp xs q) (sym (take-append-drop i cs)) ∙ named_append cmp (take i cs) (drop i cs) q

pub unnamed_front : {K X : Type 0} (cmp : K → K → Ordering) (cs : List (RowEdit K X)) (i : ℕ) (q : K) → is_named cmp cs q ≡ false → is_named cmp (take i cs) q ≡ false
unnamed_front cmp cs i q none = (or_parts (is_named cmp (take i cs) q) (is_named cmp (drop i cs) q) (sym (named_front cmp cs i q) ∙ none)).0

pub named_whole : {K X : Type 0} (cmp : K → K → Ordering) (cs : List (RowEdit K X)) (i : ℕ) (q : K) → is_named cmp (take i cs) q ≡ true → is_named cmp cs q ≡ true
named_whole cmp cs i q some = named_front cmp cs i q ∙ or_left (is_named cmp (take i cs) q) (is_named cmp (drop i cs) q) some

-- ---- one edit more was reserved, or released

pub reserve_more : {X : Type 0} (n b : Bool) (start was : Option (Option X)) → was ≡ cond n (Some (flat start)) start → cond b (Some (flat was)) was ≡ cond (n || b) (Some (flat start)) start
reserve_more true true start was is = ap (λ (o : Option (Option _)). Some (flat o)) is
reserve_more true false start was is = is
reserve_more false true start was is = ap (λ (o : Option (Option _)). Some (flat o)) is
reserve_more false false start was is = is

flat_some : {X : Type 0} (o : Option X) → flat (option_map Some o) ≡ o
flat_some None = refl
flat_some (Some v) = refl

pub release_more : {X : Type 0} (n b : Bool) (start was : Option (Option X)) → was ≡ cond n (option_map Some (flat start)) start →
    cond b (option_map Some (flat was)) was ≡ cond (n || b) (option_map Some (flat start)) start
release_more true true start was is = ap (λ (o : Option (Option _)). option_map Some (flat o)) is ∙ ap (option_map Some) (flat_some (flat start))
release_more true false start was is = is
release_more false true start was is = ap (λ (o : Option (Option _)). option_map Some (flat o)) is
release_more false false start was is = is

-- ---- edits that are made at places

pub set_more : {K X : Type 0} (cmp : K → K → Ordering) (cs : List (RowEdit K X)) (c : RowEdit K X) (q : K) (o : Option (Option X)) →
    option_map (changed cmp cs q) (option_map (λ was. cond (is_at (cmp c.key) q) c.row was) o) ≡ option_map (changed cmp (cs ++ c ∷ []) q) o
set_more cmp cs c q None = refl
set_more cmp cs c q (Some was) = ap Some (sym (changed_pushed cmp cs c q was))

pub applied : {X : Type 0} (c : Option (Option X)) (was now : Option (Option X)) → now ≡ option_map (after_row_edit c) was → (was ≡ Some None → is_some c ≡ true) → now ≡ Some None → is_some c ≡ true
applied (Some row) was now is only empty = refl
applied None None now is only empty = absurd (let none : None ≡ Some None = sym is ∙ empty in cc)
applied None (Some o) now is only empty = only (sym is ∙ empty)

change_rows : {K X : Type 0} (cmp : K → K → Ordering) (cs : List (RowEdit K X)) (q : K) → All (λ c. IsSome c.row) cs → IfSome (row_edit_of cmp cs q) (λ row. IsSome row)
change_rows cmp [] q all = tt
change_rows {X = X} cmp (c ∷ cs) q all = first (is_at (cmp c.key) q) c.row (row_edit_of cmp cs q) (All-head (λ d. IsSome d.row) c cs all) (change_rows cmp cs q (All-tail (λ d. IsSome d.row) c cs all))
  where
    first : (b : Bool) (row : Option X) (o : Option (Option X)) → IsSome row → IfSome o (λ r. IsSome r) → IfSome (cond b (Some row) o) (λ r. IsSome r)
    first true row o here later = here
    first false row o here later = later

full_by : {X : Type 0} (c : Option (Option X)) (was now : Option (Option X)) → IfSome c (λ row. IsSome row) → now ≡ option_map (after_row_edit c) was → (was ≡ Some None → is_some c ≡ true) → now ≡ Some None → ⊥
full_by None (Some o) now rows is only empty = let other : false ≡ true = only (sym is ∙ empty) in cc
full_by (Some None) was now rows is only empty = absurd (let none : false ≡ true = rows in cc)
full_by (Some (Some v)) (Some o) now rows is only empty = absurd (let none : Some (Some v) ≡ Some None = sym is ∙ empty in cc)
full_by _ None now rows is only empty = absurd (let none : None ≡ Some None = sym is ∙ empty in cc)

pub full_applied : {K X : Type 0} (cmp : K → K → Ordering) (cs : List (RowEdit K X)) (q : K) (was now : Option (Option X)) → All (λ c. IsSome c.row) cs →
    now ≡ option_map (changed cmp cs q) was → (was ≡ Some None → is_named cmp cs q ≡ true) → now ≡ Some None → ⊥
full_applied cmp cs q was now all is only empty = full_by (row_edit_of cmp cs q) was now (change_rows cmp cs q all) is only empty

-- ---- as many places as rows

empty_first : {K X : Type 0} {R : K → K → Ordering} → IsTotalOrder R → (k : K) (t : List (K × Option X)) → place_at R ((k, None) ∷ t) k ≡ Some None
empty_first {R = R} o k t = let e = tied_itself o k in rw e refl

empty_rest : {K X : Type 0} {R : K → K → Ordering} → IsTotalOrder R → (e : K × Option X) (t : List (K × Option X)) → IsDistinct (eq_by_cmp R) (keys_of (e ∷ t)) → HasNoEmptyPlace R (e ∷ t) → HasNoEmptyPlace R t
empty_rest {R = R} o e t d full q empty = by (is_at (R q) e.0) refl
  where
    by : (b : Bool) → is_at (R q) e.0 ≡ b → ⊥
    by true same = let none = sym (lookup-none (is_at (R q)) t (none_past_head (eq_by_cmp_equiv o) q e t d same)) ∙ empty in cc
    by false other = full q (ap (λ b. cond b (Some e.1) (place_at R t q)) other ∙ empty)

pub as_many : {K X : Type 0} {R : K → K → Ordering} → IsTotalOrder R → (t : List (K × Option X)) → IsDistinct (eq_by_cmp R) (keys_of t) → HasNoEmptyPlace R t → length t ≡ length (rows_of t)
as_many o [] d full = refl
as_many o ((k, None) ∷ t) d full = absurd (full k (empty_first o k t))
as_many {R = R} o ((k, Some v) ∷ t) d full = ap suc (as_many o t (IsDistinct-tail (eq_by_cmp R) k (keys_of t) d) (empty_rest o (k, Some v) t d full))
