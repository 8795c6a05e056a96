-- Laws of places and rows.
use denote.Enum.Compared.{Each, by}
use denote.Enum.Declared.{Choice}
use denote.Struct.Field.{Field}
use denote.Struct.Values.{Values}
use Rattle.std.proofs.Common.{◌≡◌, ◌≤◌, map, subst, List, [], ◌∷◌, ◌++◌, Option, Some, None, Bool, true, false, cond, refl, ap, sym, ◌∙◌, append-nil, length, length-append, arith, ◌&&◌, not, inl, inr}
use Rattle.std.proofs.lemmas.Cmp.{tied_itself, alike_right}
use Rattle.std.proofs.lemmas.List.Elements.{All-head, All-tail, filter-append}
use Rattle.std.proofs.lemmas.Map.{NonePasses}
use Rattle.std.proofs.lemmas.Map.Entries.{length-keys_of, none_past_head, lookup-filter-keys}
use Rattle.std.proofs.lemmas.Map.{Keys.IsDistinct-tail, Lookups.CmpEqualImpliesEq}
use Rattle.std.proofs.lemmas.Map.Made.{distinct_count-le, distinct_count-from_IsDistinct, IsDistinct-from_count, update_all_none, lookup-map_values, keys_of-map_values}
use Rattle.std.proofs.lemmas.Map.Views.{btree_map_len-from_list}
use Rattle.std.specs.BTreeMap.{BTreeMap, btree_map_len, is_at, insert_entry, IsFromIterResult, Range.range_contains}
use Rattle.std.specs.Cmp.{IsTotalOrder, eq_by_cmp_equiv, Equal-is}
use Rattle.std.specs.List.{filter, All, AllByRecursion, IsDistinct, Sorted.IsStrictlySortedBy}
use Rattle.std.specs.{Map.lookup, Map.keys_of, Map.remove_entry, Option.IsSome, Option.is_some, Option.option_map}
use Rattle.std.specs.Ordering.{is_eq, match_ordering, eq_by_cmp, ordering_then, ordering_reverse, is_le, is_lt}
use Rattle.std.specs.{Set.distinct_count, declared.cmp.Ordering.Ordering}
use Rattle.std.specs.declared.cmp.Ordering.TheVariants.{Less, Equal, Greater}
use Rattle.std.specs.declared.ops.Bound.TheVariants.{Included}
use Rattle.review_table.specs.Rows.{flat, row_at, row_in, with_row, rows_of, changed, row_edit_of, after_row_edit, has_place, placed, HavePlaces}
use Rattle.review_table.specs.{declared.table.RowEdit.RowEdit, inner.Words.place_of}

inserted : {K X : Type 0} (o : Ordering) (k : K) (e : K × Option X) (t rest : List (K × Option X)) (l : Option (Option X)) → cond (is_eq o) (Some e.1) l ≡ None
    → (l ≡ None → rows_of rest ≡ rows_of t) → rows_of (match_ordering o ((k, None) ∷ e ∷ t) ((e.0, None) ∷ t) (e ∷ rest)) ≡ rows_of (e ∷ t)
inserted Less k e t rest l h ih = refl
inserted Equal k e t rest l h ih = absurd (let same : Some e.1 ≡ None = h in cc)
inserted Greater k e t rest l h ih = ap (with_row e.0 e.1) (ih h)

-- a place with no row
pub rows_of_inserted : {K X : Type 0} (cmp : K → K → Ordering) (t : List (K × Option X)) (k : K) → lookup (is_at (cmp k)) t ≡ None → rows_of (insert_entry cmp t k None) ≡ rows_of t
rows_of_inserted cmp [] k h = refl
rows_of_inserted cmp (e ∷ t) k h = inserted (cmp k e.0) k e t (insert_entry cmp t k None) (lookup (is_at (cmp k)) t) h (rows_of_inserted cmp t k)

after_cond : {X : Type 0} (b : Bool) (row : X) (o : Option X) (was : X) → after_row_edit (cond b (Some row) o) was ≡ cond b row (after_row_edit o was)
after_cond true row o was = refl
after_cond false row o was = refl

pub changed_pushed : {K X : Type 0} (cmp : K → K → Ordering) (cs : List (RowEdit K X)) (c : RowEdit K X) (q : K) (o : Option X) → changed cmp (cs ++ c ∷ []) q o ≡ changed cmp cs q (cond (is_at (cmp c.key) q) c.row o)
changed_pushed cmp [] c q o = after_cond (is_at (cmp c.key) q) c.row None o
changed_pushed cmp (d ∷ cs) c q o =
    after_cond (is_at (cmp d.key) q) d.row (row_edit_of cmp (cs ++ c ∷ []) q) o
    ∙ (ap (cond (is_at (cmp d.key) q) d.row) (changed_pushed cmp cs c q o)
    ∙ sym (after_cond (is_at (cmp d.key) q) d.row (row_edit_of cmp cs q) (cond (is_at (cmp c.key) q) c.row o)))

-- rows of a part
with_row_filtered : {K X : Type 0} (test : K → Bool) (k : K) (o : Option X) (rows : List (K × X)) (b : Bool) → test k ≡ b → filter (λ e. test e.0) (with_row k o rows) ≡ cond b (with_row k o (filter (λ e. test e.0) rows)) (filter (λ e. test e.0) rows)
with_row_filtered test k None rows true h = refl
with_row_filtered test k None rows false h = refl
with_row_filtered test k (Some v) rows b h = rw h refl

filtered_cond : {K X : Type 0} (b : Bool) (k : K) (o : Option X) (t : List (K × Option X)) → rows_of (cond b ((k, o) ∷ t) t) ≡ cond b (with_row k o (rows_of t)) (rows_of t)
filtered_cond true k o t = refl
filtered_cond false k o t = refl

pub rows_of_filtered : {K X : Type 0} (test : K → Bool) (t : List (K × Option X)) → rows_of (filter (λ e. test e.0) t) ≡ filter (λ e. test e.0) (rows_of t)
rows_of_filtered test [] = refl
rows_of_filtered test (e ∷ t) =
    filtered_cond (test e.0) e.0 e.1 (filter (λ e. test e.0) t) ∙ ap (λ r. cond (test e.0) (with_row e.0 e.1 r) r) (rows_of_filtered test t)
    ∙ sym (with_row_filtered test e.0 e.1 (rows_of t) (test e.0) refl)

-- the row at a key, among the rows
no_rows : {K X : Type 0} (test : K → Bool) (t : List (K × Option X)) → NonePasses test t → lookup test (rows_of t) ≡ None
no_rows test [] h = refl
no_rows test ((k, None) ∷ t) h = no_rows test t h.1
no_rows test ((k, Some v) ∷ t) h = let e = h.0 in rw e (no_rows test t h.1)

row_here : {K X : Type 0} (b : Bool) (test : K → Bool) (k : K) (o : Option X) (t : List (K × Option X)) → test k ≡ b → (b ≡ true → NonePasses test t) → flat (lookup test t) ≡ lookup test (rows_of t)
    → cond b o (flat (lookup test t)) ≡ lookup test (with_row k o (rows_of t))
row_here true test k None t e h ih = sym (no_rows test t (h refl))
row_here true test k (Some v) t e h ih = rw e refl
row_here false test k None t e h ih = ih
row_here false test k (Some v) t e h ih = rw e ih

flat_cond : {X : Type 0} (b : Bool) (o : Option X) (r : Option (Option X)) → flat (cond b (Some o) r) ≡ cond b o (flat r)
flat_cond true o r = refl
flat_cond false o r = refl

pub row_among : {K X : Type 0} {R : K → K → Ordering} (o : IsTotalOrder R) (t : List (K × Option X)) → IsDistinct (eq_by_cmp R) (keys_of t) → (q : K) → row_at R t q ≡ lookup (is_at (R q)) (rows_of t)
row_among o [] d q = refl
row_among {R = R} o (e ∷ t) d q =
    flat_cond (is_at (R q) e.0) e.1 (lookup (is_at (R q)) t)
    ∙ row_here (is_at (R q) e.0) (is_at (R q)) e.0 e.1 t refl (λ same. none_past_head (eq_by_cmp_equiv o) q e t d same) (row_among o t (IsDistinct-tail (eq_by_cmp R) e.0 (keys_of t) d) q)

-- the rows are in order where the places are
all_rows : {K X : Type 0} (P : K → Type 0) (t : List (K × Option X)) → AllByRecursion P (keys_of t) → AllByRecursion P (keys_of (rows_of t))
all_rows P [] h = tt
all_rows P ((k, None) ∷ t) h = all_rows P t h.1
all_rows P ((k, Some v) ∷ t) h = (h.0, all_rows P t h.1)

pub rows_sorted : {K X : Type 0} (R : K → K → Ordering) (t : List (K × Option X)) → IsStrictlySortedBy R (keys_of t) → IsStrictlySortedBy R (keys_of (rows_of t))
unfolding IsStrictlySortedBy
rows_sorted R [] h = tt
rows_sorted R ((k, None) ∷ t) h = rows_sorted R t h.1
rows_sorted R ((k, Some v) ∷ t) h = (all_rows (λ y. R k y ≡ Less) t h.0, rows_sorted R t h.1)

pub both_equal : (a b : Ordering) → ordering_then a b ≡ Equal → (a ≡ Equal) × (b ≡ Equal)
both_equal Equal b e = (refl, e)
both_equal _ b e = absurd (cc)

-- an order by two parts ties only equal keys, where those of the parts do
pub exact_by_parts : {K A B : Type 0} (P : A → A → Ordering) (Q : B → B → Ordering) (f : K → A) (g : K → B) → CmpEqualImpliesEq P → CmpEqualImpliesEq Q → ((x y : K) → f x ≡ f y → g x ≡ g y → x ≡ y) → CmpEqualImpliesEq (λ x y. ordering_then (P (f x) (f y)) (Q (g x) (g y)))
exact_by_parts P Q f g p q parts x y e = let both = both_equal (P (f x) (f y)) (Q (g x) (g y)) e in parts x y (p (f x) (f y) both.0) (q (g x) (g y) both.1)

-- each variant's order ties only equal values
abbrev pub Exacts : (Fss : List (List Field)) → Each Ordering Fss → Type 0
Exacts [] rs = Unit {0}
Exacts (Fs ∷ Fss) rs = ((x y : Values Fs) → rs.0 x y ≡ Equal → x ≡ y) × Exacts Fss rs.1

-- then the derived order of an enum does
pub by_exact : (Fss : List (List Field)) (rs : Each Ordering Fss) → Exacts Fss rs → (c d : Choice Fss) → by Less Greater Fss rs c d ≡ Equal → c ≡ d
by_exact [] rs all c d e = absurd c
by_exact (Fs ∷ Fss) rs all (inl x) (inl y) e = ap inl (all.0 x y e)
by_exact (Fs ∷ Fss) rs all (inl x) (inr y) e = absurd (cc)
by_exact (Fs ∷ Fss) rs all (inr x) (inl y) e = absurd (cc)
by_exact (Fs ∷ Fss) rs all (inr x) (inr y) e = ap inr (by_exact Fss rs.1 all.1 x y e)

-- a place without a row may go
removed_here : {K X : Type 0} (b : Bool) (test : K → Bool) (e : K × Option X) (t : List (K × Option X)) → test e.0 ≡ b → cond b (Some e.1) (lookup test t) ≡ Some None → (lookup test t ≡ Some None → rows_of (remove_entry test t) ≡ rows_of t)
    → rows_of (cond b t (e ∷ remove_entry test t)) ≡ rows_of (e ∷ t)
removed_here true test (k, None) t h empty ih = refl
removed_here true test (k, Some v) t h empty ih = absurd (cc)
removed_here false test e t h empty ih = ap (with_row e.0 e.1) (ih empty)

pub rows_of_removed : {K X : Type 0} (test : K → Bool) (t : List (K × Option X)) → lookup test t ≡ Some None → rows_of (remove_entry test t) ≡ rows_of t
rows_of_removed test [] h = refl
rows_of_removed test (e ∷ t) h = removed_here (test e.0) test e t refl h (rows_of_removed test t)

-- the last place, with a row or none
with_row_pushed : {K X : Type 0} (k : K) (o : Option X) (xs ys : List (K × X)) → with_row k o (xs ++ ys) ≡ with_row k o xs ++ ys
with_row_pushed k None xs ys = refl
with_row_pushed k (Some v) xs ys = refl

pub rows_of_pushed : {K X : Type 0} (t : List (K × Option X)) (k : K) (o : Option X) → rows_of (t ++ (k, o) ∷ []) ≡ rows_of t ++ with_row k o []
rows_of_pushed [] k o = refl
rows_of_pushed (e ∷ t) k o = ap (with_row e.0 e.1) (rows_of_pushed t k o) ∙ with_row_pushed e.0 e.1 (rows_of t) (with_row k o [])

-- the rows of what is left, where a last place without a row went
pub rows_of_skipped : {K X : Type 0} (k : K) (o : Option X) → is_some o ≡ false → (rest left all : List (K × Option X)) → left ≡ rest ++ (k, o) ∷ [] → rows_of left ≡ rows_of all → rows_of rest ≡ rows_of all
rows_of_skipped k None none rest left all is same = sym (append-nil (rows_of rest)) ∙ (sym (rows_of_pushed rest k None) ∙ (ap rows_of (sym is) ∙ same))
rows_of_skipped k (Some v) none rest left all is same = absurd (cc)

pub rows_of_ended : {K X : Type 0} (k : K) (o : Option X) → is_some o ≡ true → (rest left all : List (K × Option X)) → left ≡ rest ++ (k, o) ∷ [] → rows_of left ≡ rows_of all → (v : X) × (rows_of all ≡ rows_of rest ++ (k, v) ∷ [])
rows_of_ended k None some rest left all is same = absurd (cc)
rows_of_ended k (Some v) some rest left all is same = (v, sym same ∙ (ap rows_of is ∙ rows_of_pushed rest k (Some v)))

pub not_empty : {X : Type 0} (xs : List X) (x : X) → xs ++ x ∷ [] ≡ [] → ⊥
not_empty xs x h = let l = ap length h in let m = length-append xs (x ∷ []) in omega arith

-- the last row
found_last : {X : Type 0} (b : Bool) (v : X) (o : Option X) → IsSome o → IsSome (cond b (Some v) o)
found_last true v o h = refl
found_last false v o h = h

pub last_there : {K X : Type 0} {R : K → K → Ordering} → IsTotalOrder R → (xs : List (K × X)) (k : K) (v : X) → IsSome (row_in R (xs ++ (k, v) ∷ []) k)
last_there {R = R} o [] k v = let e = tied_itself o k in rw e refl
last_there {R = R} o (x ∷ xs) k v = found_last (is_at (R k) x.0) x.1 (row_in R (xs ++ (k, v) ∷ []) k) (last_there o xs k v)

below_last : {K X : Type 0} (P : K → Type 0) (xs : List (K × X)) (k : K) (v : X) → AllByRecursion P (keys_of (xs ++ (k, v) ∷ [])) → P k
below_last P [] k v h = h.0
below_last P (x ∷ xs) k v h = below_last P xs k v h.1

past : {K : Type 0} {R : K → K → Ordering} → IsTotalOrder R → (q k : K) → R k q ≡ Less → is_at (R q) k ≡ false
past {R = R} o q k less = let back = o.antisymm q k in rw (back, less) refl

pub past_last : {K X : Type 0} {R : K → K → Ordering} → IsTotalOrder R → (xs : List (K × X)) (k : K) (v : X) → IsStrictlySortedBy R (keys_of (xs ++ (k, v) ∷ [])) → (q : K) → R k q ≡ Less → row_in R (xs ++ (k, v) ∷ []) q ≡ None
unfolding IsStrictlySortedBy
past_last {R = R} o [] k v sorted q less = let e = past o q k less in rw e refl
past_last {R = R} o (x ∷ xs) k v sorted q less =
    let e = past o q x.0 (o.trans x.0 k q (below_last (λ y. R x.0 y ≡ Less) xs k v sorted.0) less) in
    rw e (past_last o xs k v sorted.1 q less)

-- the row at a key, among those between two keys
in_range_alike : {K : Type 0} {R : K → K → Ordering} → IsTotalOrder R → (from to q k : K) → R q k ≡ Equal → range_contains R (Included from) (Included to) k ≡ range_contains R (Included from) (Included to) q
in_range_alike o from to q k e i = is_le (sym (alike_right o q k from e) i) && not (is_lt (sym (alike_right o q k to e) i))

pub row_between : {K X : Type 0} {R : K → K → Ordering} → IsTotalOrder R → (from to : K) (rows : List (K × X)) (q : K) → row_in R (filter (λ e. range_contains R (Included from) (Included to) e.0) rows) q ≡ cond (range_contains R (Included from) (Included to) q) (row_in R rows q) None
row_between {R = R} o from to rows q =
    lookup-filter-keys (is_at (R q)) (range_contains R (Included from) (Included to)) (range_contains R (Included from) (Included to) q) (λ k at. in_range_alike o from to q k ((Equal-is _).0 at)) rows

-- where all keys have places, all edits are made
filter_here : {X : Type 0} (b : Bool) (x : X) (xs ys : List X) → b ≡ true → ys ≡ xs → cond b (x ∷ ys) ys ≡ x ∷ xs
filter_here true x xs ys here same = ap (λ l. x ∷ l) same
filter_here false x xs ys here same = absurd (cc)

filter_all : {X : Type 0} (p : X → Bool) (xs : List X) → All (λ x. p x ≡ true) xs → filter p xs ≡ xs
filter_all p [] all = refl
filter_all p (x ∷ xs) all = filter_here (p x) x xs (filter p xs) (All-head (λ y. p y ≡ true) x xs all) (filter_all p xs (All-tail (λ y. p y ≡ true) x xs all))

pub all_placed : {K X : Type 0} (cmp : K → K → Ordering) (t : List (K × Option X)) (cs : List (RowEdit K X)) → HavePlaces cmp t cs → placed cmp t cs ≡ cs
all_placed cmp t cs places = filter_all (λ c. has_place cmp t c.key) cs places

-- one edit more, which is made where its key has a place
changed_pushed_if : {K X : Type 0} (cmp : K → K → Ordering) (b : Bool) (cs : List (RowEdit K X)) (c : RowEdit K X) (q : K) (o : Option X) →
    changed cmp (cs ++ cond b (c ∷ []) []) q o ≡ changed cmp cs q (cond (b && is_at (cmp c.key) q) c.row o)
changed_pushed_if cmp true cs c q o = changed_pushed cmp cs c q o
changed_pushed_if cmp false cs c q o = ap (λ l. changed cmp l q o) (append-nil cs)

pub placed_pushed : {K X : Type 0} (cmp : K → K → Ordering) (t : List (K × Option X)) (cs : List (RowEdit K X)) (c : RowEdit K X) (q : K) (o : Option X) →
    changed cmp (placed cmp t (cs ++ c ∷ [])) q o ≡ changed cmp (placed cmp t cs) q (cond (has_place cmp t c.key && is_at (cmp c.key) q) c.row o)
placed_pushed cmp t cs c q o =
    ap (λ l. changed cmp l q o) (filter-append (λ d. has_place cmp t d.key) cs (c ∷ [])) ∙ changed_pushed_if cmp (has_place cmp t c.key) (placed cmp t cs) c q o

-- between a key and one before it there is none
none_between : {K : Type 0} {R : K → K → Ordering} → IsTotalOrder R → (from to q : K) → R to from ≡ Less → (o : Ordering) → R from q ≡ o → range_contains R (Included from) (Included to) q ≡ false
none_between o from to q less Less e = let t = o.trans to from q less e in rw (e, t) refl
none_between o from to q less Equal e = let t = sym (alike_right o from q to e) ∙ less in rw (e, t) refl
none_between o from to q less Greater e = rw e refl

filter_none : {X : Type 0} (p : X → Bool) (xs : List X) → ((x : X) → p x ≡ false) → filter p xs ≡ []
filter_none p [] none = refl
filter_none p (x ∷ xs) none = let e = none x in rw e (filter_none p xs none)

pub select_none : {K X : Type 0} {R : K → K → Ordering} → IsTotalOrder R → (from to : K) (rows : List (K × X)) → R from to ≡ Greater → filter (λ e. range_contains R (Included from) (Included to) e.0) rows ≡ []
select_none {R = R} o from to rows greater =
    let less : R to from ≡ Less = o.antisymm to from ∙ ap ordering_reverse greater in
    filter_none (λ e. range_contains R (Included from) (Included to) e.0) rows (λ e. none_between o from to e.0 less (R from e.0) refl)

-- a map that was made of the places of rows
pub map_length : {K X : Type 0} {R : K → K → Ordering} (o : IsTotalOrder R) (rows : List (K × X)) (m : BTreeMap K (Option X)) → IsFromIterResult R (map place_of rows) m → btree_map_len m ≡ distinct_count (eq_by_cmp R) (keys_of rows)
map_length {R = R} o rows m from = btree_map_len-from_list o (map place_of rows) m from ∙ ap (distinct_count (eq_by_cmp R)) (keys_of-map_values (λ v. Some v) rows)

pub distinct_by_length : {K X : Type 0} {R : K → K → Ordering} (o : IsTotalOrder R) (rows : List (K × X)) (m : BTreeMap K (Option X)) → IsFromIterResult R (map place_of rows) m → length rows ≤ btree_map_len m → IsDistinct (eq_by_cmp R) (keys_of rows)
distinct_by_length {R = R} o rows m from all =
    let is = map_length o rows m from in
    let most = distinct_count-le (eq_by_cmp R) (keys_of rows) in
    let count = length-keys_of rows in
    IsDistinct-from_count (eq_by_cmp_equiv o) (keys_of rows) (search arith)

pub length_by_distinct : {K X : Type 0} {R : K → K → Ordering} (o : IsTotalOrder R) (rows : List (K × X)) (m : BTreeMap K (Option X)) → IsFromIterResult R (map place_of rows) m → IsDistinct (eq_by_cmp R) (keys_of rows) → btree_map_len m ≡ length rows
length_by_distinct {R = R} o rows m from distinct = map_length o rows m from ∙ (distinct_count-from_IsDistinct (eq_by_cmp_equiv o) (keys_of rows) distinct ∙ length-keys_of rows)

pub map_place : {K X : Type 0} {R : K → K → Ordering} (o : IsTotalOrder R) (rows : List (K × X)) (m : BTreeMap K (Option X)) → IsFromIterResult R (map place_of rows) m → IsDistinct (eq_by_cmp R) (keys_of rows)
    → (q : K) → lookup (is_at (R q)) m.entries ≡ option_map (λ v. Some v) (lookup (is_at (R q)) rows)
map_place {R = R} o rows m from distinct q =
    from.0 q ∙ (update_all_none (eq_by_cmp_equiv o) (eq_by_cmp R) (λ x y. refl) (map place_of rows) q (subst (IsDistinct (eq_by_cmp R)) (sym (keys_of-map_values (λ v. Some v) rows)) distinct)
    ∙ lookup-map_values (λ v. Some v) (is_at (R q)) rows)

pub flat_some : {X : Type 0} (o : Option X) → flat (option_map (λ v. Some v) o) ≡ o
flat_some None = refl
flat_some (Some v) = refl

pub never_empty : {X : Type 0} (o : Option X) → option_map (λ v. Some v) o ≡ Some None → ⊥
never_empty None is = cc
never_empty (Some v) is = cc
