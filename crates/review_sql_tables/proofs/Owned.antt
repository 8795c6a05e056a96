-- What is found of an owner's rows, as it reads.
use Rattle.std.proofs.Common.{option_to_list}
use Rattle.std.proofs.lemmas.List.{length-append, append-nil, take-append-drop, Elements.filter-append}
use Rattle.review_sql_tables.proofs.Common.{◌≤◌, ◌<◌, ◌+◌, ◌||◌, ℕ, not, is_some, drop, get_or, take, ◌≡◌, ◌∙◌, List, [], ◌∷◌, ◌++◌, Bool, true, false, Ordering, Option, Some, None, option_map, cond, map, filter, length, refl, sym, ap, subst, inl, inr, arith, cases_Bool, both_ways, length-map, map-append, take_more, recursion_from_All, All-from_recursion, length_permutation, IsPermutation-map, All-permutation, IsPermutation-sym, is_at, AllByRecursion, list_any, IsPermutation, one_permutation, IsPermutation-filter, filter-map, filter-filter, map-map, all_unmap, Trees, Row, row_in, has_key, IsExact, AreParts, HaveRows, Search, shown, reads, row_at, only, rows_at, Finds, WereApart, WereSorted}
use Rattle.review_sql_tables.{proofs.Found.all_found, specs.Search.IsFront}
use Rattle.review_sql_tables.specs.inner.Words.{HasTwins, is_of, at_key}

-- it is there
abbrev IsThere : {X : Type 0} → Option X → Type 0
IsThere {X} o = (x : X) × (o ≡ Some x)

some_all : {X : Type 0} (xs : List X) → AllByRecursion IsThere (map Some xs)
some_all [] = tt
some_all (x ∷ xs) = ((x, refl), some_all xs)

has_some : {K X : Type 0} (cmp : K → K → Ordering) (k : K) (items : List (K × X)) → filter (is_of cmp k) (map Some items) ≡ map Some (at_key cmp k items)
has_some cmp k items = filter-map (is_of cmp k) Some items

-- two tests agree on rows of which something holds
filter_where : {X : Type 0} (P : X → Type 0) (p q : X → Bool) → ((x : X) → P x → p x ≡ q x) → (xs : List X) → AllByRecursion P xs → filter p xs ≡ filter q xs
filter_where P p q same [] all = refl
filter_where P p q same (x ∷ xs) all = rw (same x all.0) (ap (λ l. cond (q x) (x ∷ l) l) (filter_where P p q same xs all.1))

all_both : {X : Type 0} (P Q : X → Type 0) (xs : List X) → AllByRecursion P xs → AllByRecursion Q xs → AllByRecursion (λ x. P x × Q x) xs
all_both P Q [] p q = tt
all_both P Q (x ∷ xs) p q = ((p.0, q.0), all_both P Q xs p.1 q.1)

all_pass : {X : Type 0} (p : X → Bool) (xs : List X) → AllByRecursion (λ x. p x ≡ true) (filter p xs)
all_pass p [] = tt
all_pass p (x ∷ xs) = elim (cases_Bool (p x)) [ inl is ↦ rw is (is, all_pass p xs) | inr other ↦ rw other (all_pass p xs) ]

short : {X : Type 0} (o : Option X) → length (option_to_list o) ≤ 1
short None = omega arith
short (Some x) = omega arith

-- one row that reads so, or none
read_one : {Y X : Type 0} (f : Row → Option Y) (g : Row → Option X) (snd : Y → X) (rows : List Row) (items : List Y) (o : Option X) → IsPermutation (map f rows) (map Some items) → map snd items ≡ option_to_list o
    → ((r : Row) (y : Y) → f r ≡ Some y → g r ≡ Some (snd y)) → only g rows ≡ option_map Some o
read_one f g snd [] items None same is reads = refl
read_one f g snd [] [] (Some x) same is reads = absurd (cc)
read_one f g snd [] (i ∷ items) (Some x) same is reads = absurd (omega (arith, length_permutation _ _ same))
read_one f g snd (r ∷ []) (i ∷ []) None same is reads = absurd (cc)
read_one f g snd (r ∷ []) (i ∷ []) (Some x) same is reads =
    let e : map Some (i ∷ []) ≡ f r ∷ [] = one_permutation (f r) (map Some (i ∷ [])) same in
    let here : f r ≡ Some i = let s = sym e in cc in
    let value : snd i ≡ x = let s = is in cc in
    ap Some (reads r i here ∙ ap Some value)
read_one f g snd (r ∷ s ∷ rows) items o same is reads =
    let a = length_permutation _ _ same in
    let b = length-map items Some in
    let d = ap length is in
    let e = length-map items snd in
    absurd (omega (arith, a, b, d, e, short o))
read_one f g snd (r ∷ []) _ o same is reads = absurd (omega (arith, length_permutation _ _ same))

-- several rows are odd
several : {X : Type 0} (read : Row → Option X) (rows : List Row) → 1 < length rows → only read rows ≡ Some None
several read (r ∷ s ∷ rows) two = refl
several read _ two = absurd (omega (arith, two))

reads_so : {X : Type 0} (o : Option X) (rest : Bool) → (not (is_some o) || rest) ≡ false → IsThere o × (rest ≡ false)
reads_so None rest none = absurd (cc)
reads_so (Some x) rest none = ((x, refl), none)

-- where none is odd, each row reads
all_there : {X : Type 0} (read : Row → Option X) (rows : List Row) → list_any (λ r. not (is_some (read r))) rows ≡ false → AllByRecursion (λ r. IsThere (read r)) rows
all_there read [] none = tt
all_there read (r ∷ rows) none = let it = reads_so (read r) _ none in (it.0, all_there read rows it.1)

module _ {O K X : Type 0} (cmp : K → K → Ordering) (front : Search O (K × X)) (whole : Search (O × K) X) (law : IsFront cmp front whole) (o : O) (db : Trees) where
  abbrev mine : List Row
  mine = rows_at (front.at o) (db front.tree)

  -- an owner's row that reads is of the key just where it reads so
  agree : (k : K) (r : Row) → (has_key (front.at o) r ≡ true) × IsThere (reads front r) → has_key (whole.at (o, k)) r ≡ is_of cmp k (reads front r)
  agree k r h = elim (cases_Bool (has_key (whole.at (o, k)) r)) [
    | inl is ↦ rw (is, h.1.1) (sym (subst (λ j. is_at (cmp j) k ≡ true) (sym (law.alone o h.1.0.0 k h.1.0.1 r h.1.1 is)) (law.exact.itself k)))
    | inr other ↦ rw (other, h.1.1) (elim (cases_Bool (is_at (cmp h.1.0.0) k)) [
      | inl same ↦ absurd (both_ways _ other (subst (λ j. has_key (whole.at (o, j)) r ≡ true) (law.exact.same h.1.0.0 k same) (law.keyed o h.1.0.0 h.1.0.1 r h.0 h.1.1)))
      | inr apart ↦ sym apart
    ])
  ]

  -- where each of an owner's rows reads, those of a key are those that read so
  of_key : (k : K) → AllByRecursion (λ r. IsThere (reads front r)) mine → filter (has_key (whole.at (o, k))) (db whole.tree) ≡ filter (λ r. is_of cmp k (reads front r)) mine
  of_key k there =
      let both = all_both (λ r. has_key (front.at o) r ≡ true) (λ r. IsThere (reads front r)) mine (all_pass (has_key (front.at o)) (db front.tree)) there in
      ap (λ t. filter (has_key (whole.at (o, k))) (db t)) (sym law.tree)
      ∙ (sym (filter-filter (has_key (whole.at (o, k))) (has_key (front.at o)) (λ r. law.within o k r) (db front.tree))
      ∙ filter_where (λ r. (has_key (front.at o) r ≡ true) × IsThere (reads front r)) _ _ (agree k) mine both)

  pub owned : (rows : List Row) (entries : List (K × X)) → WereApart cmp front.read rows entries → Finds front o db rows → HaveRows cmp whole o db entries
  owned rows entries were found k =
      let same : IsPermutation (map (reads front) mine) (map Some were.items) =
      subst (IsPermutation (map (reads front) mine)) were.read_as (subst (λ l. IsPermutation l (map front.read rows)) (map-map front.read (shown front) mine) (IsPermutation-map front.read (map (shown front) mine) rows found)) in
      let there : AllByRecursion (λ r. IsThere (reads front r)) mine =
      all_unmap IsThere (reads front) mine (recursion_from_All IsThere _ (All-permutation IsThere _ _ (IsPermutation-sym _ _ same) (All-from_recursion IsThere _ (some_all were.items)))) in
      let picked : IsPermutation (map (reads front) (filter (λ r. is_of cmp k (reads front r)) mine)) (map Some (at_key cmp k were.items)) =
      subst (IsPermutation _) (has_some cmp k were.items) (subst (λ l. IsPermutation l (filter (is_of cmp k) (map Some were.items))) (filter-map (is_of cmp k) (reads front) mine) (IsPermutation-filter (is_of cmp k) _ _ same)) in
      ap (only (reads whole)) (of_key k there)
      ∙ read_one (reads front) (reads whole) (λ e. e.1) (filter (λ r. is_of cmp k (reads front r)) mine) (at_key cmp k were.items) (row_in cmp entries k) picked (were.each k) (λ r y is. law.shows o y.0 y.1 r is)

  -- where each row reads, two that read with one key stand at one key
  twins : (k : K) → AllByRecursion (λ r. IsThere (reads front r)) mine → 1 < length (filter (λ r. is_of cmp k (reads front r)) mine) → row_at whole db (o, k) ≡ Some None
  twins k there two = ap (only (reads whole)) (of_key k there) ∙ several (reads whole) (filter (λ r. is_of cmp k (reads front r)) mine) two

  pub sorted_owned : (rows : List Row) (found : Option (List (K × X))) → WereSorted cmp front.read rows found → Finds front o db rows → AreParts cmp front whole o db found
  sorted_owned rows None (inl odd) h = inl (all_found front db o rows None odd h)
  sorted_owned rows None (inr both) h = elim (cases_Bool (list_any (λ r. not (is_some (reads front r))) mine)) [
    | inl odd ↦ inl odd
    | inr none ↦
        let same = IsPermutation-filter (λ e. is_of cmp both.0 (front.read e)) _ _ h in
        let shown : length (filter (λ r. is_of cmp both.0 (front.read r)) (map (shown front) mine)) ≡ length (filter (λ r. is_of cmp both.0 (reads front r)) mine) =
        ap length (filter-map (λ e. is_of cmp both.0 (front.read e)) (shown front) mine) ∙ length-map (filter (λ r. is_of cmp both.0 (reads front r)) mine) (shown front) in
        inr (both.0, twins both.0 (all_there (reads front) mine none) (omega (arith, length_permutation _ _ same, shown, both.1)))
  ]
  sorted_owned rows (Some entries) were h = owned rows entries were h

-- ---- one more row that was read

module _ {K X : Type 0} (cmp : K → K → Ordering) (exact : IsExact cmp) (read : Row → Option (K × X)) where
  one_more : (k j : K) (x : X) (was : Option X) (now : Option X) (items : List (K × X)) → map (λ e. e.1) (at_key cmp k items) ≡ option_to_list was → now ≡ cond (is_at (cmp j) k) (Some x) was → (j ≡ k → was ≡ None)
      → map (λ e. e.1) (at_key cmp k (items ++ (j, x) ∷ [])) ≡ option_to_list now
  one_more k j x was now items before after free = elim (cases_Bool (is_at (cmp j) k)) [
    | inl is ↦ rw (after, filter-append (λ (e : K × X). is_at (cmp e.0) k) items ((j, x) ∷ []), is) (let none = free (exact.same j k is) in map-append _ _ _ ∙ (ap (λ l. l ++ x ∷ []) (before ∙ ap option_to_list none)))
    | inr other ↦ rw (after, filter-append (λ (e : K × X). is_at (cmp e.0) k) items ((j, x) ∷ []), other) (ap (map (λ e. e.1)) (append-nil (at_key cmp k items)) ∙ before)
  ]

  pub more_apart : (rows : List Row) (r : Row) (j : K) (x : X) (old new : List (K × X)) → WereApart cmp read rows old → read r ≡ Some (j, x) → row_in cmp old j ≡ None
      → ((k : K) → row_in cmp new k ≡ cond (is_at (cmp j) k) (Some x) (row_in cmp old k)) → WereApart cmp read (rows ++ r ∷ []) new
  more_apart rows r j x old new were is free put = record {
    items = were.items ++ (j, x) ∷ [];
    read_as = map-append read rows (r ∷ []) ∙ ((λ i. were.read_as i ++ is i ∷ []) ∙ sym (map-append Some were.items ((j, x) ∷ [])));
    each = λ k. one_more k j x (row_in cmp old k) (row_in cmp new k) were.items (were.each k) (put k) (λ same. subst (λ q. row_in cmp old q ≡ None) same free);
  }

  pub step_apart : (all : List Row) (i : ℕ) (r : Row) (e : K × X) (old new : List (K × X)) → i < length all → r ≡ get_or all i r → WereApart cmp read (take i all) old → read r ≡ Some e → row_in cmp old e.0 ≡ None
      → ((k : K) → row_in cmp new k ≡ cond (is_at (cmp e.0) k) (Some e.1) (row_in cmp old k)) → WereApart cmp read (take (i + 1) all) new
  step_apart all i r e old new low at were is free put = subst (λ l. WereApart cmp read l new) (sym (take_more all i r low ∙ (λ k. take i all ++ sym at k ∷ []))) (more_apart (take i all) r e.0 e.1 old new were is free put)

  one_there : (o : Option X) → is_some o ≡ true → length (option_to_list o) ≡ 1
  one_there None is = absurd (cc)
  one_there (Some x) is = refl

  -- a row that reads with the key of one before it
  pub twins_found : (all : List Row) (i : ℕ) (r : Row) (e : K × X) (old : List (K × X)) → i < length all → r ≡ get_or all i r → WereApart cmp read (take i all) old → read r ≡ Some e → is_some (row_in cmp old e.0) ≡ true → HasTwins cmp read all
  twins_found all i r e old low at were is there =
      let k = e.0 in
      let test : Row → Bool = λ q. is_of cmp k (read q) in
      let items : length (at_key cmp k were.items) ≡ 1 = sym (length-map (at_key cmp k were.items) (λ q. q.1)) ∙ (ap length (were.each k) ∙ one_there (row_in cmp old k) there) in
      let before : length (filter test (take i all)) ≡ 1 =
      sym (length-map (filter test (take i all)) read) ∙ (ap length (sym (filter-map (is_of cmp k) read (take i all))) ∙ (ap (λ l. length (filter (is_of cmp k) l)) were.read_as
      ∙ (ap length (has_some cmp k were.items) ∙ (length-map (at_key cmp k were.items) Some ∙ items)))) in
      let here : test r ≡ true = rw is (exact.itself k) in
      let taken : filter test (take (i + 1) all) ≡ filter test (take i all) ++ r ∷ [] =
      ap (filter test) (take_more all i r low ∙ (λ j. take i all ++ sym at j ∷ [])) ∙ (filter-append test (take i all) (r ∷ []) ∙ ap (λ b. filter test (take i all) ++ cond b (r ∷ []) []) here) in
      let both : length (filter test (take (i + 1) all)) ≡ 2 = ap length taken ∙ (length-append (filter test (take i all)) (r ∷ []) ∙ ap (λ n. n + 1) before) in
      let whole : length (filter test all) ≡ length (filter test (take (i + 1) all)) + length (filter test (drop (i + 1) all)) =
      ap (λ l. length (filter test l)) (sym (take-append-drop (i + 1) all)) ∙ (ap length (filter-append test (take (i + 1) all) (drop (i + 1) all)) ∙ length-append (filter test (take (i + 1) all)) (filter test (drop (i + 1) all))) in
      (k, omega (arith, both, whole))
