-- What changes in a group, and the row of a key after it.
use Rattle.std.proofs.Common.{Bor, ◌≡◌, ℕ, ◌+◌, ◌<◌, ◌==◌, List, [], ◌∷◌, ◌++◌, length, get_or, take, map, Bool, true, false, cond, not, ◌&&◌, ◌||◌, refl, sym, ap, ◌∙◌, ⊎_elim, Option, Some, None, eqb-true, eq-eqb, arith, filter, nat_cmp, bytes_eq}
use Rattle.std.proofs.lemmas.Bool.{and_right, not-true, cases_Bool, and_parts, and_from}
use Rattle.std.proofs.lemmas.List.Elements.{filter-append}
use Rattle.std.proofs.lemmas.Map.Keys.{IsDistinct-head, IsDistinct-tail, IsDistinct-from_sorted}
use Rattle.std.{proofs.lemmas.Map.Made.IsDistinct-keys_filter, specs.Cmp.tied_then, specs.Cmp.unsigned_tied}
use Rattle.std.specs.List.{list_any, AllByRecursion, IsDistinct, Sorted.IsStrictlySortedBy}
use Rattle.std.specs.Ordering.{eq_by_cmp}
use Rattle.review_table.specs.Rows.{NamesOnce, after_row_edit, row_edit_of, row_in}
use Rattle.review_machine_rows.proofs.Common.{MemberRow, RowEdit, bytes_eq-Decides, deref_pair, is_at, is_eq-slice_cmp, keys_of, map-append, member_change, member_cmp, nat_tests, slice_cmp, some_or, take_more}
use Rattle.review_machine_rows.specs.declared.rows.MemberKey.{MemberKey as Member}
use Rattle.review_machine_accounts.specs.inner.Words.{added, dropped, leaves, is_held, member_of}

abbrev add_change : List ℕ → ℕ → RowEdit Member (Unit {0})
add_change group a = record { key = member_of group a; row = Some tt }

abbrev drop_change : List ℕ → ℕ × Unit {0} → RowEdit Member (Unit {0})
drop_change group e = record { key = member_of group e.0; row = None }

pub added_more : (group : List ℕ) (held : List (ℕ × Unit {0})) (members : List ℕ) (i : ℕ) (a : ℕ) → i < length members → a ≡ get_or members i a →
    added group held (take (i + 1) members) ≡ added group held (take i members) ++ added group held (a ∷ [])
added_more group held members i a below is =
    let p : ℕ → Bool = λ n. not (is_held held n) in
    let more : take (i + 1) members ≡ take i members ++ a ∷ [] = take_more members i a below ∙ ap (λ x. take i members ++ x ∷ []) (sym is) in
    ap (λ xs. map (add_change group) (filter p xs)) more
    ∙ (ap (map (add_change group)) (filter-append p (take i members) (a ∷ [])) ∙ map-append (add_change group) (filter p (take i members)) (filter p (a ∷ [])))

pub dropped_more : (group members : List ℕ) (held : List (Bor ℕ × Bor (Unit {0}))) (i : ℕ) (e : Bor ℕ × Bor (Unit {0})) → i < length held → e ≡ get_or held i e →
    dropped group (map deref_pair (take (i + 1) held)) members ≡ dropped group (map deref_pair (take i held)) members ++ dropped group ((e.0.now, tt) ∷ []) members
dropped_more group members held i e below is =
    let p : ℕ × Unit {0} → Bool = λ k. leaves members k.0 in
    let more : take (i + 1) held ≡ take i held ++ e ∷ [] = take_more held i e below ∙ ap (λ x. take i held ++ x ∷ []) (sym is) in
    ap (λ xs. map (drop_change group) (filter p (map deref_pair xs))) more
    ∙ (ap (λ xs. map (drop_change group) (filter p xs)) (map-append deref_pair (take i held) (e ∷ []))
    ∙ (ap (map (drop_change group)) (filter-append p (map deref_pair (take i held)) (deref_pair e ∷ []))
    ∙ map-append (drop_change group) (filter p (map deref_pair (take i held))) (filter p (deref_pair e ∷ []))))

-- two keys of members are the same
member_tied : (j k : Member) → is_at (member_cmp j) k ≡ (bytes_eq j.group k.group && (j.account == k.account))
member_tied j k = sym (tied_then (slice_cmp nat_cmp j.group k.group) (nat_cmp j.account k.account))
    ∙ (λ i. is_eq-slice_cmp j.group k.group i && unsigned_tied j.account k.account i)

member_from : (j k : Member) → is_at (member_cmp j) k ≡ true → j ≡ k
member_from j k t =
    let p = and_parts (bytes_eq j.group k.group) (j.account == k.account) (sym (member_tied j k) ∙ t) in
    let g = (bytes_eq-Decides j.group k.group).0 p.0 in
    let a = eqb-true j.account k.account p.1 in
    λ i. record { group = g i; account = a i }

member_to : (j k : Member) → j ≡ k → is_at (member_cmp j) k ≡ true
member_to j k e = member_tied j k ∙ and_from (bytes_eq j.group k.group) (j.account == k.account)
    ((bytes_eq-Decides j.group k.group).1 (λ i. (e i).group)) (eq-eqb j.account k.account (λ i. (e i).account))

-- and the other way round
member_sym : (j k : Member) → is_at (member_cmp j) k ≡ is_at (member_cmp k) j
member_sym j k = ⊎_elim
    (λ (t : is_at (member_cmp j) k ≡ true). t ∙ sym (member_to k j (sym (member_from j k t))))
    (λ (f : is_at (member_cmp j) k ≡ false). ⊎_elim
    (λ (t : is_at (member_cmp k) j ≡ true). let u = member_to j k (sym (member_from k j t)) in absurd (cc))
    (λ (g : is_at (member_cmp k) j ≡ false). f ∙ sym g)
    (cases_Bool (is_at (member_cmp k) j)))
    (cases_Bool (is_at (member_cmp j) k))

abbrev or_else : {X : Type 0} → Option X → Option X → Option X
or_else None other = other
or_else (Some x) other = Some x

row_edit_of-append : (xs ys : List (RowEdit Member (Unit {0}))) (k : Member) → row_edit_of member_cmp (xs ++ ys) k ≡ or_else (row_edit_of member_cmp xs k) (row_edit_of member_cmp ys k)
row_edit_of-append [] ys k = refl
row_edit_of-append (x ∷ xs) ys k = ⊎_elim
    (λ (t : is_at (member_cmp x.key) k ≡ true).
    ap (λ b. cond b (Some x.row) (row_edit_of member_cmp (xs ++ ys) k)) t
    ∙ sym (ap (λ b. or_else (cond b (Some x.row) (row_edit_of member_cmp xs k)) (row_edit_of member_cmp ys k)) t))
    (λ (f : is_at (member_cmp x.key) k ≡ false).
    ap (λ b. cond b (Some x.row) (row_edit_of member_cmp (xs ++ ys) k)) f
    ∙ (row_edit_of-append xs ys k ∙ sym (ap (λ b. or_else (cond b (Some x.row) (row_edit_of member_cmp xs k)) (row_edit_of member_cmp ys k)) f)))
    (cases_Bool (is_at (member_cmp x.key) k))

-- a change to v where it is so
abbrev where_so : Option (Unit {0}) → Bool → Option (Option (Unit {0}))
where_so v b = cond b (Some v) None

-- one more change in a list: p where it is there, t where it is of the key
pushed : {X : Type 0} (f : X → RowEdit Member (Unit {0})) (x : X) (xs : List X) (k : Member) (p : Bool) →
    row_edit_of member_cmp (map f (cond p (x ∷ xs) xs)) k ≡ cond p (cond (is_at (member_cmp (f x).key) k) (Some (f x).row) (row_edit_of member_cmp (map f xs) k)) (row_edit_of member_cmp (map f xs) k)
pushed f x xs k true = refl
pushed f x xs k false = refl

one_more : (v : Option (Unit {0})) (p t x q : Bool) (c : Option (Option (Unit {0}))) → c ≡ where_so v (x && q) → (t ≡ true → p ≡ q) →
    cond p (cond t (Some v) c) c ≡ where_so v ((t || x) && q)
one_more v true true x true c e same = refl
one_more v true true x false c e same = let bad : true ≡ false = same refl in absurd (cc)
one_more v true false x q c e same = e
one_more v false true x true c e same = let bad : false ≡ true = same refl in absurd (cc)
one_more v false true true false c e same = e
one_more v false true false false c e same = e
one_more v false false x q c e same = e

shared : (g a b : Bool) → ((g && a) || (g && b)) ≡ (g && (a || b))
shared true a b = refl
shared false a b = refl

-- a key is put where it is of a new member
row_edit_of-added : (group : List ℕ) (held : List (ℕ × Unit {0})) (members : List ℕ) (k : Member) →
    row_edit_of member_cmp (added group held members) k ≡ where_so (Some tt) ((bytes_eq group k.group && list_any (λ n. n == k.account) members) && not (is_held held k.account))
row_edit_of-added group held [] k = elim (bytes_eq group k.group) as (λ g. None ≡ where_so (Some tt) ((g && false) && not (is_held held k.account))) [ true ↦ refl | false ↦ refl ]
row_edit_of-added group held (a ∷ members) k =
    let p : ℕ → Bool = λ n. not (is_held held n) in
    let t : Bool = is_at (member_cmp (member_of group a)) k in
    let x : Bool = bytes_eq group k.group && list_any (λ n. n == k.account) members in
    let q : Bool = not (is_held held k.account) in
    pushed (add_change group) a (filter p members) k (p a)
    ∙ (one_more (Some tt) (p a) t x q (row_edit_of member_cmp (added group held members) k) (row_edit_of-added group held members k)
    (λ e. ap (λ (m : Member). not (is_held held m.account)) (member_from (member_of group a) k e))
    ∙ ap (λ b. where_so (Some tt) (b && q))
    (ap (λ b. b || x) (member_tied (member_of group a) k) ∙ shared (bytes_eq group k.group) (a == k.account) (list_any (λ n. n == k.account) members)))

pub eq_sym : (m n : ℕ) → (m == n) ≡ (n == m)
eq_sym m n = grind (arith, nat_tests)

-- one more member that is held
held_more : (e : ℕ × Unit {0}) (held : List (ℕ × Unit {0})) (a : ℕ) → is_held (e ∷ held) a ≡ ((e.0 == a) || is_held held a)
held_more e held a = some_or (is_at (nat_cmp a) e.0) e.1 (row_in nat_cmp held a) ∙ ap (λ b. b || is_held held a) (unsigned_tied a e.0 ∙ eq_sym a e.0)

-- a key is taken away where it is of a member that leaves
row_edit_of-dropped : (group members : List ℕ) (held : List (ℕ × Unit {0})) (k : Member) →
    row_edit_of member_cmp (dropped group held members) k ≡ where_so None ((bytes_eq group k.group && is_held held k.account) && leaves members k.account)
row_edit_of-dropped group members [] k = elim (bytes_eq group k.group) as (λ g. None ≡ where_so None ((g && false) && leaves members k.account)) [ true ↦ refl | false ↦ refl ]
row_edit_of-dropped group members (e ∷ held) k =
    let p : ℕ × Unit {0} → Bool = λ d. leaves members d.0 in
    let t : Bool = is_at (member_cmp (member_of group e.0)) k in
    let x : Bool = bytes_eq group k.group && is_held held k.account in
    let q : Bool = leaves members k.account in
    pushed (drop_change group) e (filter p held) k (p e)
    ∙ (one_more None (p e) t x q (row_edit_of member_cmp (dropped group held members) k) (row_edit_of-dropped group members held k)
    (λ s. ap (λ (m : Member). leaves members m.account) (member_from (member_of group e.0) k s))
    ∙ ap (λ b. where_so None (b && q))
    (ap (λ b. b || x) (member_tied (member_of group e.0) k)
    ∙ (shared (bytes_eq group k.group) (e.0 == k.account) (is_held held k.account) ∙ ap (λ b. bytes_eq group k.group && b) (sym (held_more e held k.account)))))

any_cond : (test : ℕ → Bool) (g : Bool) (xs ys : List ℕ) → list_any test (cond g xs ys) ≡ cond g (list_any test xs) (list_any test ys)
any_cond test true xs ys = refl
any_cond test false xs ys = refl

-- g: it is of the group; x: it is a new member; y: it was a member; held: its row was loaded
row_after : (g x y held : Bool) → (g ≡ true → held ≡ y) →
    cond (cond g x y) (Some MemberRow) None
    ≡ after_row_edit (member_change (or_else (where_so (Some tt) ((g && x) && not held)) (where_so None ((g && held) && not x)))) (cond y (Some MemberRow) None)
row_after false x y held same = refl
row_after true true true true same = refl
row_after true true true false same = let bad = same refl in absurd (cc)
row_after true true false true same = let bad = same refl in absurd (cc)
row_after true true false false same = refl
row_after true false true true same = refl
row_after true false true false same = let bad = same refl in absurd (cc)
row_after true false false true same = let bad = same refl in absurd (cc)
row_after true false false false same = refl

-- the changes of a group make its members these, and leave the others
pub members_after : (group members before : List ℕ) (held : List (ℕ × Unit {0})) (g : List ℕ) (a : ℕ) →
    (bytes_eq group g ≡ true → is_held held a ≡ list_any (λ m. m == a) before) →
    cond (list_any (λ m. m == a) (cond (bytes_eq group g) members before)) (Some MemberRow) None
    ≡ after_row_edit (member_change (row_edit_of member_cmp (added group held members ++ dropped group held members) (member_of g a))) (cond (list_any (λ m. m == a) before) (Some MemberRow) None)
members_after group members before held g a same =
    let k = member_of g a in
    ap (λ b. cond b (Some MemberRow) None) (any_cond (λ m. m == a) (bytes_eq group g) members before)
    ∙ (row_after (bytes_eq group g) (list_any (λ m. m == a) members) (list_any (λ m. m == a) before) (is_held held a) same
    ∙ sym (ap (λ c. after_row_edit (member_change c) (cond (list_any (λ m. m == a) before) (Some MemberRow) None))
    (row_edit_of-append (added group held members) (dropped group held members) k ∙ (λ i. or_else (row_edit_of-added group held members k i) (row_edit_of-dropped group members held k i)))))

-- each member is named once
off : (g l : Bool) → where_so None ((g && false) && l) ≡ None
off true l = refl
off false l = refl

-- who is not held is not dropped
none_dropped : (group members : List ℕ) (q : Member) (held : List (ℕ × Unit {0})) → is_held held q.account ≡ false → row_edit_of member_cmp (dropped group held members) q ≡ None
none_dropped group members q held f =
    row_edit_of-dropped group members held q
    ∙ (ap (λ b. where_so None ((bytes_eq group q.group && b) && leaves members q.account)) f ∙ off (bytes_eq group q.group) (leaves members q.account))

-- different accounts of a group
apart : (group : List ℕ) (a b : ℕ) → eq_by_cmp nat_cmp a b ≡ false → is_at (member_cmp (member_of group b)) (member_of group a) ≡ false
apart group a b f =
    member_sym (member_of group b) (member_of group a)
    ∙ (member_tied (member_of group a) (member_of group b) ∙ and_right (bytes_eq group group) (a == b) (sym (unsigned_tied a b) ∙ f))

none_of : (group : List ℕ) (a : ℕ) (es : List (ℕ × Unit {0})) → AllByRecursion (λ y. eq_by_cmp nat_cmp a y ≡ false) (keys_of es) →
    row_edit_of member_cmp (map (drop_change group) es) (member_of group a) ≡ None
none_of group a [] all = refl
none_of group a (e ∷ es) all = let f = apart group a e.0 all.0 in rw f (none_of group a es all.1)

dropped_once : (group : List ℕ) (es : List (ℕ × Unit {0})) → IsDistinct (eq_by_cmp nat_cmp) (keys_of es) → NamesOnce member_cmp (map (drop_change group) es)
dropped_once group [] d = tt
dropped_once group (e ∷ es) d =
    (none_of group e.0 es (IsDistinct-head (eq_by_cmp nat_cmp) e.0 (keys_of es) d), dropped_once group es (IsDistinct-tail (eq_by_cmp nat_cmp) e.0 (keys_of es) d))

add_none : (b : Bool) (group : List ℕ) (m : ℕ) (ms : List ℕ) (ds : List (RowEdit Member (Unit {0}))) (q : Member) → is_at (member_cmp (member_of group m)) q ≡ false →
    row_edit_of member_cmp (map (add_change group) ms ++ ds) q ≡ None → row_edit_of member_cmp (map (add_change group) (cond b (m ∷ ms) ms) ++ ds) q ≡ None
add_none true group m ms ds q f none = rw f none
add_none false group m ms ds q f none = none

none_added : (group : List ℕ) (p : ℕ → Bool) (a : ℕ) (ms : List ℕ) (ds : List (RowEdit Member (Unit {0}))) → AllByRecursion (λ y. eq_by_cmp nat_cmp a y ≡ false) ms →
    row_edit_of member_cmp ds (member_of group a) ≡ None → row_edit_of member_cmp (map (add_change group) (filter p ms) ++ ds) (member_of group a) ≡ None
none_added group p a [] ds all none = none
none_added group p a (m ∷ ms) ds all none =
    add_none (p m) group m (filter p ms) ds (member_of group a) (apart group a m all.0) (none_added group p a ms ds all.1 none)

add_once : (b : Bool) (group : List ℕ) (m : ℕ) (ms : List ℕ) (ds : List (RowEdit Member (Unit {0}))) →
    (b ≡ true → row_edit_of member_cmp (map (add_change group) ms ++ ds) (member_of group m) ≡ None) → NamesOnce member_cmp (map (add_change group) ms ++ ds) →
    NamesOnce member_cmp (map (add_change group) (cond b (m ∷ ms) ms) ++ ds)
add_once true group m ms ds none rest = (none refl, rest)
add_once false group m ms ds none rest = rest

added_once : (group members : List ℕ) (held : List (ℕ × Unit {0})) (ms : List ℕ) → IsDistinct (eq_by_cmp nat_cmp) ms → NamesOnce member_cmp (dropped group held members) →
    NamesOnce member_cmp (added group held ms ++ dropped group held members)
added_once group members held [] d once = once
added_once group members held (m ∷ ms) d once =
    let p : ℕ → Bool = λ n. not (is_held held n) in
    add_once (p m) group m (filter p ms) (dropped group held members)
    (λ t. none_added group p m ms (dropped group held members) (IsDistinct-head (eq_by_cmp nat_cmp) m ms d)
    (none_dropped group members (member_of group m) held (not-true (is_held held m) t)))
    (added_once group members held ms (IsDistinct-tail (eq_by_cmp nat_cmp) m ms d) once)

pub changes_once : (group members : List ℕ) (held : List (ℕ × Unit {0})) → IsStrictlySortedBy nat_cmp members → IsStrictlySortedBy nat_cmp (keys_of held) →
    NamesOnce member_cmp (added group held members ++ dropped group held members)
changes_once group members held sorted rows =
    added_once group members held members (IsDistinct-from_sorted nat_cmp members sorted)
    (dropped_once group (filter (λ e. leaves members e.0) held)
    (IsDistinct-keys_filter (eq_by_cmp nat_cmp) (λ e. leaves members e.0) held (IsDistinct-from_sorted nat_cmp (keys_of held) rows)))
