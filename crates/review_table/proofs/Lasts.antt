-- The last row between two keys.
use Rattle.std.proofs.Common.{◌≡◌, List, [], ◌∷◌, ◌++◌, Option, Some, None, Bool, true, false, cond, refl, ap, sym, ◌∙◌, subst}
use Rattle.std.{proofs.lemmas.List.Kept.IsStrictlySortedBy-filter, specs.BTreeMap.Range.range_contains}
use Rattle.std.specs.{Cmp.IsTotalOrder, List.filter, List.Sorted.IsStrictlySortedBy, Map.keys_of}
use Rattle.std.specs.Option.{IsSome, IfNone, IfSome}
use Rattle.std.specs.declared.{cmp.Ordering.Ordering, cmp.Ordering.TheVariants.Less, ops.Bound.TheVariants.Included}
use Rattle.review_table.proofs.Places.{last_there, past_last, row_between}
use Rattle.review_table.specs.Rows.{row_in}

-- the rows whose keys lie between two
abbrev pub between : {K X : Type 0} → (K → K → Ordering) → K → K → List (K × X) → List (K × X)
between R from to rows = filter (λ e. range_contains R (Included from) (Included to) e.0) rows

-- the last of these rows has the key
abbrev EndsAt : {K X : Type 0} → K → List (K × X) → Type 0
EndsAt {K} {X} k rows = (front : List (K × X)) × (v : X) × (rows ≡ front ++ (k, v) ∷ [])

keys_here : {K X : Type 0} (b : Bool) (e : K × X) (rows : List (K × X)) → keys_of (cond b (e ∷ rows) rows) ≡ cond b (e.0 ∷ keys_of rows) (keys_of rows)
keys_here true e rows = refl
keys_here false e rows = refl

-- the keys of the rows whose keys pass a test
pub keys_filtered : {K X : Type 0} (p : K → Bool) (rows : List (K × X)) → keys_of (filter (λ e. p e.0) rows) ≡ filter p (keys_of rows)
keys_filtered p [] = refl
keys_filtered p (e ∷ rows) = keys_here (p e.0) e (filter (λ x. p x.0) rows) ∙ ap (λ ks. cond (p e.0) (e.0 ∷ ks) ks) (keys_filtered p rows)

-- a row between two keys is one of all rows
inside : {K X : Type 0} {R : K → K → Ordering} → IsTotalOrder R → (from to : K) (rows : List (K × X)) (q : K) → range_contains R (Included from) (Included to) q ≡ true → row_in R rows q ≡ row_in R (between R from to rows) q
inside {R = R} o from to rows q is = sym (row_between o from to rows q ∙ ap (λ b. cond b (row_in R rows q) None) is)

pub none_inside : {K X : Type 0} {R : K → K → Ordering} → IsTotalOrder R → (from to : K) (rows : List (K × X)) → between R from to rows ≡ [] → (q : K) → range_contains R (Included from) (Included to) q ≡ true → row_in R rows q ≡ None
none_inside {R = R} o from to rows none q is = inside o from to rows q is ∙ ap (λ xs. row_in R xs q) none

found_there : {K X : Type 0} {R : K → K → Ordering} → IsTotalOrder R → (from to : K) (rows : List (K × X)) (k : K) → EndsAt k (between R from to rows) → IsSome (row_in R (between R from to rows) k)
found_there {R = R} o from to rows k last = subst (λ xs. IsSome (row_in R xs k)) (sym last.2) (last_there o last.0 k last.1)

pub last_inside : {K X : Type 0} {R : K → K → Ordering} → IsTotalOrder R → (from to : K) (rows : List (K × X)) (k : K) → EndsAt k (between R from to rows) → range_contains R (Included from) (Included to) k ≡ true
last_inside {R = R} o from to rows k last = by (range_contains R (Included from) (Included to) k) refl
  where
    by : (b : Bool) → range_contains R (Included from) (Included to) k ≡ b → b ≡ true
    by true is = refl
    by false is = absurd (let some : false ≡ true = subst IsSome (row_between o from to rows k ∙ ap (λ b. cond b (row_in R rows k) None) is) (found_there o from to rows k last) in cc)

pub last_found : {K X : Type 0} {R : K → K → Ordering} → IsTotalOrder R → (from to : K) (rows : List (K × X)) (k : K) → EndsAt k (between R from to rows) → IsSome (row_in R rows k)
last_found o from to rows k last = subst IsSome (sym (inside o from to rows k (last_inside o from to rows k last))) (found_there o from to rows k last)

pub none_above : {K X : Type 0} {R : K → K → Ordering} → IsTotalOrder R → (from to : K) (rows : List (K × X)) (k : K) → EndsAt k (between R from to rows) → IsStrictlySortedBy R (keys_of rows) →
    (q : K) → R k q ≡ Less → range_contains R (Included from) (Included to) q ≡ true → row_in R rows q ≡ None
none_above {R = R} o from to rows k last sorted q less is =
    let test = range_contains R (Included from) (Included to) in
    let part = subst (IsStrictlySortedBy R) (sym (keys_filtered test rows)) (IsStrictlySortedBy-filter R test (keys_of rows) sorted) in
    inside o from to rows q is ∙ ap (λ xs. row_in R xs q) last.2
    ∙ past_last o last.0 k last.1 (subst (λ xs. IsStrictlySortedBy R (keys_of xs)) last.2 part) q less

pub if_none : {X : Type 0} {P Q : Type 0} (r : Option X) → (P → Q) → IfNone r P → IfNone r Q
if_none None f p = f p
if_none (Some x) f p = p

pub if_some : {X : Type 0} {P Q : X → Type 0} (r : Option X) → ((x : X) → P x → Q x) → IfSome r P → IfSome r Q
if_some None f p = p
if_some (Some x) f p = f x p
