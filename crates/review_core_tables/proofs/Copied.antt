-- Votes by their keys: copied to a new patch set, and counted.
use Rattle.std.proofs.Common.{◌≡◌, List, [], ◌∷◌, Option, Some, None, Bool, true, false, refl, sym, ap, ◌∙◌, ⊎_elim, subst, filter, is_eq, if◌then◌else◌, ℕ, ℤ, pos, not, ◌&&◌, ◌||◌, eqb-true, eq-eqb, int_eq, IsSome, nat_cmp, ◌==◌, bytes_eq, Bor, ◌<◌, ◌+◌, length, drop, get_or, map, append_assoc, ◌++◌, suc}
use Rattle.std.proofs.{Math.Bool.and_assoc, lemmas.Bool.cases_Bool, lemmas.Bool.and_parts, lemmas.Bool.and_from}
use Rattle.std.proofs.lemmas.{Bool.Decides.Decides-int_eq, List.at_drop_more, Map.Text.is_eq-slice_cmp}
use Rattle.std.{proofs.lemmas.Slice.Eq.bytes_eq-Decides, specs.BTreeMap.is_at}
use Rattle.std.specs.{Cmp.tied_then, Cmp.unsigned_tied, Cmp.Lexicographic.slice_cmp, List.AllByRecursion, List.list_any}
use Rattle.std.specs.{List.Sorted.IsStrictlySortedBy, Map.keys_of, Map.Iter.deref_pair, Ordering.ordering_then}
use Rattle.std.specs.declared.cmp.Ordering.{Ordering, TheVariants.Less}
use Rattle.review_table.specs.Rows.{row_in, rows_of}
use Rattle.{review_words.specs.declared.changes.Given.Given, review_core_rules.proofs.Stays.zero_of}
use Rattle.review_core_rules.specs.{Change.given_or, Seen.vote_cmp, Seen.value_of, Seen.Votes, Seen.vote_in}
use Rattle.review_core_rules.specs.{Votes.voted, declared.rows.VoteKey.VoteKey}
use Rattle.review_core_tables.specs.Copies.{Copies, has_lost, copied_rows, lost_rows, AreApart, AreMany}
use Rattle.review_core_tables.specs.Tables.{put_in}
use Rattle.review_core_tables.specs.inner.Words.{given_at, or_else, is_vote, is_of}

-- ==== rows that are put one after the other

-- a comparison tells keys apart
pub record Tells {K : Type 0} (R : K → K → Ordering) : Type 0 where
  pub same : (j k : K) → is_at (R j) k ≡ true → j ≡ k
  pub self : (k : K) → is_at (R k) k ≡ true

pub at_sym : {K : Type 0} {R : K → K → Ordering} → Tells R → (j k : K) → is_at (R j) k ≡ is_at (R k) j
at_sym {R = R} t j k = ⊎_elim
    (λ (y : is_at (R j) k ≡ true). y ∙ sym (subst (λ x. is_at (R k) x ≡ true) (sym (t.same j k y)) (t.self k)))
    (λ (f : is_at (R j) k ≡ false). ⊎_elim
    (λ (y : is_at (R k) j ≡ true). let e = subst (λ x. is_at (R j) x ≡ true) (sym (t.same k j y)) (t.self j) in absurd (cc))
    (λ (g : is_at (R k) j ≡ false). f ∙ sym g)
    (cases_Bool (is_at (R k) j)))
    (cases_Bool (is_at (R j) k))

-- in order, the rows after a key's have none of that key
pub none_after : {K X : Type 0} (R : K → K → Ordering) (k q : K) → q ≡ k → (rows : List (K × X)) → AllByRecursion (λ y. R k y ≡ Less) (keys_of rows) → row_in R rows q ≡ None
none_after R k q e [] s = refl
none_after R k q e (r ∷ rows) s = let h : is_at (R q) r.0 ≡ false = ap (λ x. is_at (R x) r.0) e ∙ ap is_eq s.0 in rw h (none_after R k q e rows s.1)

pub put_where : {K X : Type 0} (R : K → K → Ordering) (b : Bool) (xs ys : List (K × X)) (q : K) (o : Option X) → put_in R (if b then xs else ys) q o ≡ (if b then put_in R xs q o else put_in R ys q o)
put_where R true xs ys q o = refl
put_where R false xs ys q o = refl

-- ==== votes by their keys

-- two keys of votes are the same
pub vote_tied : (k : VoteKey) (n : ℕ) (l : List ℕ) (a : ℕ) → is_at (vote_cmp k) (record { patch = n; label = l; account = a }) ≡ is_vote k n l a
vote_tied k n l a =
    sym (tied_then (nat_cmp k.patch n) (ordering_then (slice_cmp nat_cmp k.label l) (nat_cmp k.account a)))
    ∙ (λ i. unsigned_tied k.patch n i && ((sym (tied_then (slice_cmp nat_cmp k.label l) (nat_cmp k.account a)) ∙ (λ j. is_eq-slice_cmp k.label l j && unsigned_tied k.account a j)) i))

value_where : (b : Bool) (x y : Option ℤ) → value_of (if b then x else y) ≡ (if b then value_of x else value_of y)
value_where true x y = refl
value_where false x y = refl

abbrev pub vote_key : ℕ → List ℕ → ℕ → VoteKey
vote_key n l a = record { patch = n; label = l; account = a }

-- one vote is put or taken away
pub vote_set : (k : VoteKey) (o : Option ℤ) (new old : VoteKey → Option ℤ) → ((q : VoteKey) → new q ≡ (if is_at (vote_cmp k) q then o else old q)) →
    (n : ℕ) (l : List ℕ) (a : ℕ) → value_of (new (vote_key n l a)) ≡ (if is_vote k n l a then value_of o else value_of (old (vote_key n l a)))
vote_set k o new old is n l a =
    ap value_of (is (vote_key n l a))
    ∙ (value_where (is_at (vote_cmp k) (vote_key n l a)) o (old (vote_key n l a))
    ∙ ap (λ b. if b then value_of o else value_of (old (vote_key n l a))) (vote_tied k n l a))

pub votes_tell : Tells vote_cmp
votes_tell = record {
  same = λ j k e.
      let p = and_parts (j.patch == k.patch) (bytes_eq j.label k.label && (j.account == k.account)) (sym (vote_tied j k.patch k.label k.account) ∙ e) in
      let r = and_parts (bytes_eq j.label k.label) (j.account == k.account) p.1 in
      let n = eqb-true j.patch k.patch p.0 in
      let l = (bytes_eq-Decides j.label k.label).0 r.0 in
      let a = eqb-true j.account k.account r.1 in
      λ i. record { patch = n i; label = l i; account = a i };
  self = λ k. vote_tied k k.patch k.label k.account
      ∙ and_from (k.patch == k.patch) (bytes_eq k.label k.label && (k.account == k.account)) (eq-eqb k.patch k.patch refl)
      (and_from (bytes_eq k.label k.label) (k.account == k.account) ((bytes_eq-Decides k.label k.label).1 refl) (eq-eqb k.account k.account refl));
}

value_same : (b : Bool) (v w : ℤ) → (b ≡ true → w ≡ v) → w ≡ (if b then v else w)
value_same true v w same = same refl
value_same false v w same = refl

-- a vote that has its value already
pub vote_stays : (k : VoteKey) (v : ℤ) (old : VoteKey → Option ℤ) → value_of (old k) ≡ v → (n : ℕ) (l : List ℕ) (a : ℕ) → value_of (old (vote_key n l a)) ≡ (if is_vote k n l a then v else value_of (old (vote_key n l a)))
vote_stays k v old is n l a = value_same (is_vote k n l a) v (value_of (old (vote_key n l a))) (λ here. ap (λ q. value_of (old q)) (sym (votes_tell.same k (vote_key n l a) (vote_tied k n l a ∙ here))) ∙ is)

-- votes after one value more that an account gives on a patch set
pub given_more : (patch account : ℕ) (g : Given) (gs : List Given) (n : ℕ) (l : List ℕ) (a : ℕ) (old : ℤ) →
    given_at patch account gs n l a (if is_vote (vote_key patch g.label account) n l a then g.value else old) ≡ given_at patch account (g ∷ gs) n l a old
given_more patch account g gs n l a old = by (patch == n) (bytes_eq g.label l) (account == a)
  where
    by : (p q r : Bool) → (if p && r then given_or gs l (if p && (q && r) then g.value else old) else (if p && (q && r) then g.value else old)) ≡ (if p && r then given_or gs l (if q then g.value else old) else old)
    by true true true = refl
    by true false true = refl
    by true true false = refl
    by true false false = refl
    by false q r = refl

and_no : (b : Bool) → false ≡ (b && false)
and_no true = refl
and_no false = refl

any_where : {K : Type 0} (test : K → Bool) (b : Bool) (k : K) (ks : List K) → list_any test (if b then k ∷ ks else ks) ≡ (if b then test k || list_any test ks else list_any test ks)
any_where test true k ks = refl
any_where test false k ks = refl

kept_step : (b here passes kept rest : Bool) → (here ≡ true → passes ≡ b) → kept ≡ (passes && rest) → (if b then here || kept else kept) ≡ (passes && (here || rest))
kept_step true true passes kept rest same ih = ap (λ x. x && true) (sym (same refl))
kept_step true false passes kept rest same ih = ih
kept_step false true passes kept rest same ih = ih ∙ (ap (λ x. x && rest) (same refl) ∙ ap (λ x. x && true) (sym (same refl)))
kept_step false false passes kept rest same ih = ih

-- a key is among those that pass a test where it passes and is among all
pub any_kept : {K : Type 0} {R : K → K → Ordering} → Tells R → (p : K → Bool) (q : K) (ks : List K) → list_any (is_at (R q)) (filter p ks) ≡ (p q && list_any (is_at (R q)) ks)
any_kept t p q [] = and_no (p q)
any_kept {R = R} t p q (k ∷ ks) =
    any_where (is_at (R q)) (p k) k (filter p ks)
    ∙ kept_step (p k) (is_at (R q) k) (p q) (list_any (is_at (R q)) (filter p ks)) (list_any (is_at (R q)) ks) (λ h. ap p (t.same q k h)) (any_kept t p q ks)

-- the votes but those of an account on a patch set
pub votes_dropped : (patch account : ℕ) (keys : List VoteKey) (new old : VoteKey → Option ℤ) →
    ((q : VoteKey) → is_of patch account q ≡ true → IsSome (old q) → list_any (is_at (vote_cmp q)) keys ≡ true) → ((q : VoteKey) → is_of patch account q ≡ false → list_any (is_at (vote_cmp q)) keys ≡ false) →
    ((q : VoteKey) → new q ≡ (if list_any (is_at (vote_cmp q)) keys then None else old q)) →
    (n : ℕ) (l : List ℕ) (a : ℕ) → value_of (new (vote_key n l a)) ≡ (if is_of patch account (vote_key n l a) then pos 0 else value_of (old (vote_key n l a)))
votes_dropped patch account keys new old all only is n l a =
    let q = vote_key n l a in
    ap value_of (is q) ∙ by (is_of patch account q) (list_any (is_at (vote_cmp q)) keys) (old q) (all q) (only q)
  where
    by : (b any : Bool) (o : Option ℤ) → (b ≡ true → IsSome o → any ≡ true) → (b ≡ false → any ≡ false) → value_of (if any then None else o) ≡ (if b then pos 0 else value_of o)
    by true true o there none = refl
    by true false None there none = refl
    by true false (Some v) there none = absurd (let no : false ≡ true = there refl refl in cc)
    by false true o there none = absurd (let no : true ≡ false = none refl in cc)
    by false false o there none = refl

-- the value of a vote that is made of a value
pub value_voted : (v : ℤ) → value_of (if voted v then Some v else None) ≡ v
value_voted v = ⊎_elim
    (λ (e : voted v ≡ true). rw e refl)
    (λ (e : voted v ≡ false). rw e (sym ((Decides-int_eq v (pos 0)).0 (untrue (int_eq v (pos 0)) e))))
    (cases_Bool (voted v))
  where
    untrue : (b : Bool) → not b ≡ false → b ≡ true
    untrue true e = refl
    untrue false e = absurd (let f : true ≡ false = e in cc)

-- ==== votes that a new patch set copies

-- a row that is copied
abbrev copied_of : Copies → List ℕ → ℕ → Option ℤ → Option ℤ
copied_of f l a None = None
copied_of f l a (Some v) = if voted v && f l a v then Some v else None

copied_step : (c d here : Bool) (G : Option ℤ → Option ℤ) (t : Bool) (v : ℤ) (rest before copied : Option ℤ) → ((o : Option ℤ) → G o ≡ or_else copied o)
    → (here ≡ true → (d ≡ true) × (c ≡ t) × (copied ≡ None)) → (c ≡ true → d ≡ true → here ≡ true)
    → (if c then G (if d then Some v else before) else G before) ≡ or_else (if here then (if t then Some v else None) else copied) before
copied_step true true true G true v rest before copied ih at back = let h = at refl in ih (Some v) ∙ rw h.2 refl
copied_step true true true G false v rest before copied ih at back = let h = at refl in absurd (let e : true ≡ false = h.1 in cc)
copied_step true true false G t v rest before copied ih at back = absurd (let e : false ≡ true = back refl refl in cc)
copied_step true false true G t v rest before copied ih at back = absurd (let e : false ≡ true = (at refl).0 in cc)
copied_step true false false G t v rest before copied ih at back = ih before
copied_step false d true G true v rest before copied ih at back = absurd (let e : false ≡ true = (at refl).1 in cc)
copied_step false d true G false v rest before copied ih at back = let h = at refl in ih before ∙ rw h.2 refl
copied_step false d false G t v rest before copied ih at back = ih before

copied_where : (f : Copies) (l : List ℕ) (a : ℕ) (b : Bool) (v : ℤ) (o : Option ℤ) → copied_of f l a (if b then Some v else o) ≡ (if b then (if voted v && f l a v then Some v else None) else copied_of f l a o)
copied_where f l a true v o = refl
copied_where f l a false v o = refl

-- the row of a vote on the next patch set, after those that are copied
pub put_copied : (f : Copies) (n next : ℕ) (l : List ℕ) (a : ℕ) (rows : List (VoteKey × ℤ)) → IsStrictlySortedBy vote_cmp (keys_of rows) → (before : Option ℤ) →
    put_in vote_cmp (copied_rows f n next rows) (vote_key next l a) before ≡ or_else (copied_of f l a (row_in vote_cmp rows (vote_key n l a))) before
unfolding IsStrictlySortedBy
put_copied f n next l a [] s before = refl
put_copied f n next l a (e ∷ es) s before =
    let c = ((e.0.patch == n) && voted e.1) && f e.0.label e.0.account e.1 in
    let k : VoteKey = record { patch = next; label = e.0.label; account = e.0.account } in
    put_where vote_cmp c ((k, e.1) ∷ copied_rows f n next es) (copied_rows f n next es) (vote_key next l a) before
    ∙ (copied_step c (is_at (vote_cmp k) (vote_key next l a)) (is_at (vote_cmp (vote_key n l a)) e.0) (put_in vote_cmp (copied_rows f n next es) (vote_key next l a)) (voted e.1 && f l a e.1) e.1 (row_in vote_cmp es (vote_key n l a)) before
    (copied_of f l a (row_in vote_cmp es (vote_key n l a)))
    (put_copied f n next l a es s.1)
    (λ h.
    let same = votes_tell.same (vote_key n l a) e.0 h in
    let p : n ≡ e.0.patch = ap (λ (x : VoteKey). x.patch) same in
    let q : l ≡ e.0.label = ap (λ (x : VoteKey). x.label) same in
    let r : a ≡ e.0.account = ap (λ (x : VoteKey). x.account) same in (
      vote_tied k next l a ∙ and_from (next == next) (bytes_eq e.0.label l && (e.0.account == a)) (eq-eqb next next refl) (and_from (bytes_eq e.0.label l) (e.0.account == a) ((bytes_eq-Decides e.0.label l).1 (sym q)) (eq-eqb e.0.account a (sym r))),
      and_assoc (e.0.patch == n) (voted e.1) (f e.0.label e.0.account e.1) ∙ (λ i. eq-eqb e.0.patch n (sym p) i && (voted e.1 && f (sym q i) (sym r i) e.1)),
      ap (copied_of f l a) (none_after vote_cmp e.0 (vote_key n l a) same es s.0),
    ))
    (λ yes d.
    let x = and_parts (e.0.patch == n) (voted e.1) (and_parts ((e.0.patch == n) && voted e.1) (f e.0.label e.0.account e.1) yes).0 in
    let y = and_parts (next == next) (bytes_eq e.0.label l && (e.0.account == a)) (sym (vote_tied k next l a) ∙ d) in
    let z = and_parts (bytes_eq e.0.label l) (e.0.account == a) y.1 in
    vote_tied (vote_key n l a) e.0.patch e.0.label e.0.account
    ∙ and_from (n == e.0.patch) (bytes_eq l e.0.label && (a == e.0.account)) (eq-eqb n e.0.patch (sym (eqb-true e.0.patch n x.0)))
    (and_from (bytes_eq l e.0.label) (a == e.0.account) ((bytes_eq-Decides l e.0.label).1 (sym ((bytes_eq-Decides e.0.label l).0 z.0))) (eq-eqb a e.0.account (sym (eqb-true e.0.account a z.1)))))
    ∙ ap (λ o. or_else o before) (sym (copied_where f l a (is_at (vote_cmp (vote_key n l a)) e.0) e.1 (row_in vote_cmp es (vote_key n l a)))))

-- the rows one after the other
put_front : {X : Type 0} (b : Bool) (x : X) (xs : List X) → (if b then x ∷ xs else xs) ≡ (if b then x ∷ [] else []) ++ xs
put_front true x xs = refl
put_front false x xs = refl

pub copied_next : (f : Copies) (n next : ℕ) (e : VoteKey × ℤ) (es : List (VoteKey × ℤ)) → copied_rows f n next (e ∷ es) ≡ copied_rows f n next (e ∷ []) ++ copied_rows f n next es
copied_next f n next e es = put_front (((e.0.patch == n) && voted e.1) && f e.0.label e.0.account e.1) (record { patch = next; label = e.0.label; account = e.0.account }, e.1) (copied_rows f n next es)

pub lost_next : (f : Copies) (n : ℕ) (e : VoteKey × ℤ) (es : List (VoteKey × ℤ)) → lost_rows f n (e ∷ es) ≡ lost_rows f n (e ∷ []) ++ lost_rows f n es
lost_next f n e es = put_front (((e.0.patch == n) && voted e.1) && not (f e.0.label e.0.account e.1)) e.0 (lost_rows f n es)

-- a vote that is lost
pub value_none : (f : Copies) (l : List ℕ) (u : ℕ) (o : Option ℤ) → o ≡ None → (voted (value_of o) && not (f l u (value_of o))) ≡ false
value_none f l u o e = ap (λ x. voted (value_of x) && not (f l u (value_of x))) e

lost_step : (c t here x rest : Bool) → (here ≡ true → (t ≡ true) × (c ≡ x) × (rest ≡ false)) → (c ≡ true → t ≡ true → here ≡ true) → (if c then t || rest else rest) ≡ (if here then x else rest)
lost_step true true true x rest at back = let h = at refl in h.1
lost_step true true false x rest at back = absurd (let e : false ≡ true = back refl refl in cc)
lost_step true false true x rest at back = absurd (let e : false ≡ true = (at refl).0 in cc)
lost_step true false false x rest at back = refl
lost_step false t true x rest at back = let h = at refl in h.2 ∙ h.1
lost_step false t false x rest at back = refl

lost_if : (b : Bool) (u : ℕ) (l : List ℕ) (k : VoteKey) (ks : List VoteKey) → has_lost (if b then k ∷ ks else ks) u l ≡ (if b then (bytes_eq k.label l && (k.account == u)) || has_lost ks u l else has_lost ks u l)
lost_if true u l k ks = refl
lost_if false u l k ks = refl

value_if : (f : Copies) (l : List ℕ) (u : ℕ) (b : Bool) (v : ℤ) (o : Option ℤ) → (if b then voted v && not (f l u v) else voted (value_of o) && not (f l u (value_of o))) ≡ (voted (value_of (if b then Some v else o)) && not (f l u (value_of (if b then Some v else o))))
value_if f l u true v o = refl
value_if f l u false v o = refl

pub lost_is : (f : Copies) (n : ℕ) (l : List ℕ) (u : ℕ) (rows : List (VoteKey × ℤ)) → IsStrictlySortedBy vote_cmp (keys_of rows) →
    has_lost (lost_rows f n rows) u l ≡ (voted (value_of (row_in vote_cmp rows (vote_key n l u))) && not (f l u (value_of (row_in vote_cmp rows (vote_key n l u)))))
unfolding IsStrictlySortedBy
lost_is f n l u [] s = refl
lost_is f n l u (e ∷ es) s =
    let c = ((e.0.patch == n) && voted e.1) && not (f e.0.label e.0.account e.1) in
    let here = is_at (vote_cmp (vote_key n l u)) e.0 in
    let old = row_in vote_cmp es (vote_key n l u) in
    lost_if c u l e.0 (lost_rows f n es)
    ∙ (lost_step c (bytes_eq e.0.label l && (e.0.account == u)) here (voted e.1 && not (f l u e.1)) (has_lost (lost_rows f n es) u l)
    (λ h.
    let same = votes_tell.same (vote_key n l u) e.0 h in
    let p : n ≡ e.0.patch = ap (λ (x : VoteKey). x.patch) same in
    let q : l ≡ e.0.label = ap (λ (x : VoteKey). x.label) same in
    let r : u ≡ e.0.account = ap (λ (x : VoteKey). x.account) same in (
      and_from (bytes_eq e.0.label l) (e.0.account == u) ((bytes_eq-Decides e.0.label l).1 (sym q)) (eq-eqb e.0.account u (sym r)),
      and_assoc (e.0.patch == n) (voted e.1) (not (f e.0.label e.0.account e.1)) ∙ (λ i. eq-eqb e.0.patch n (sym p) i && (voted e.1 && not (f (sym q i) (sym r i) e.1))),
      lost_is f n l u es s.1 ∙ value_none f l u old (none_after vote_cmp e.0 (vote_key n l u) same es s.0),
    ))
    (λ yes t.
    let x = and_parts (e.0.patch == n) (voted e.1) (and_parts ((e.0.patch == n) && voted e.1) (not (f e.0.label e.0.account e.1)) yes).0 in
    let z = and_parts (bytes_eq e.0.label l) (e.0.account == u) t in
    vote_tied (vote_key n l u) e.0.patch e.0.label e.0.account
    ∙ and_from (n == e.0.patch) (bytes_eq l e.0.label && (u == e.0.account)) (eq-eqb n e.0.patch (sym (eqb-true e.0.patch n x.0)))
    (and_from (bytes_eq l e.0.label) (u == e.0.account) ((bytes_eq-Decides l e.0.label).1 (sym ((bytes_eq-Decides e.0.label l).0 z.0))) (eq-eqb u e.0.account (sym (eqb-true e.0.account u z.1)))))
    ∙ (ap (λ b. if here then voted e.1 && not (f l u e.1) else b) (lost_is f n l u es s.1)
    ∙ value_if f l u here e.1 old))

value_next : (f : Copies) (l : List ℕ) (a : ℕ) (o before : Option ℤ) → value_of before ≡ pos 0 → value_of (or_else (copied_of f l a o) before) ≡ (if f l a (value_of o) then value_of o else pos 0)
value_next f l a None before zero = zero ∙ same (f l a (pos 0))
  where
    same : (b : Bool) → pos 0 ≡ (if b then pos 0 else pos 0)
    same true = refl
    same false = refl
value_next f l a (Some v) before zero = go (voted v) (f l a v) refl
  where
    go : (x y : Bool) → voted v ≡ x → value_of (or_else (if x && y then Some v else None) before) ≡ (if y then v else pos 0)
    go true true e = refl
    go true false e = zero
    go false true e = zero ∙ sym (zero_of v e)
    go false false e = zero

-- a copy stands on the next patch set alone
put_past : (f : Copies) (n next : ℕ) (q : VoteKey) → (next == q.patch) ≡ false → (rows : List (VoteKey × ℤ)) (before : Option ℤ) → put_in vote_cmp (copied_rows f n next rows) q before ≡ before
put_past f n next q e [] before = refl
put_past f n next q e (r ∷ rows) before =
    let k : VoteKey = record { patch = next; label = r.0.label; account = r.0.account } in
    let not_here : is_at (vote_cmp k) q ≡ false = vote_tied k q.patch q.label q.account ∙ ap (λ b. b && (bytes_eq r.0.label q.label && (r.0.account == q.account))) e in
    put_where vote_cmp (((r.0.patch == n) && voted r.1) && f r.0.label r.0.account r.1) ((k, r.1) ∷ copied_rows f n next rows) (copied_rows f n next rows) q before
    ∙ (ap (λ b. if ((r.0.patch == n) && voted r.1) && f r.0.label r.0.account r.1 then put_in vote_cmp (copied_rows f n next rows) q (if b then Some r.1 else before) else put_in vote_cmp (copied_rows f n next rows) q before) not_here
    ∙ (same (((r.0.patch == n) && voted r.1) && f r.0.label r.0.account r.1) (put_in vote_cmp (copied_rows f n next rows) q before) ∙ put_past f n next q e rows before))
  where
    same : (b : Bool) (o : Option ℤ) → (if b then o else o) ≡ o
    same true o = refl
    same false o = refl

-- the votes after those of a patch set are copied to the next one, on which there were none
pub votes_carried : (f : Copies) (n next : ℕ) (votes : Votes) (after : VoteKey → Option ℤ) → IsStrictlySortedBy vote_cmp (keys_of (rows_of votes)) → ((l : List ℕ) (a : ℕ) → vote_in votes next l a ≡ pos 0) →
    ((q : VoteKey) → after q ≡ put_in vote_cmp (copied_rows f n next (rows_of votes)) q (row_in vote_cmp (rows_of votes) q)) →
    (m : ℕ) (l : List ℕ) (a : ℕ) → value_of (after (vote_key m l a)) ≡ (if next == m then (if f l a (vote_in votes n l a) then vote_in votes n l a else pos 0) else vote_in votes m l a)
votes_carried f n next votes after sorted none is m l a = go (next == m) refl
  where
    go : (b : Bool) → (next == m) ≡ b → value_of (after (vote_key m l a)) ≡ (if b then (if f l a (vote_in votes n l a) then vote_in votes n l a else pos 0) else vote_in votes m l a)
    go true e =
        let same = eqb-true next m e in
        ap value_of (is (vote_key m l a))
        ∙ (ap (λ x. value_of (put_in vote_cmp (copied_rows f n next (rows_of votes)) (vote_key x l a) (row_in vote_cmp (rows_of votes) (vote_key x l a)))) (sym same)
        ∙ (ap value_of (put_copied f n next l a (rows_of votes) sorted (row_in vote_cmp (rows_of votes) (vote_key next l a)))
        ∙ value_next f l a (row_in vote_cmp (rows_of votes) (vote_key n l a)) (row_in vote_cmp (rows_of votes) (vote_key next l a)) (none l a)))
    go false e = ap value_of (is (vote_key m l a) ∙ put_past f n next (vote_key m l a) e (rows_of votes) (row_in vote_cmp (rows_of votes) (vote_key m l a)))

-- one row more of a loop over rows
pub rows_more : {X : Type 0} (G : List (VoteKey × ℤ) → List X) → ((e : VoteKey × ℤ) (es : List (VoteKey × ℤ)) → G (e ∷ es) ≡ G (e ∷ []) ++ G es) →
    (old new whole : List X) (rows : List (Bor VoteKey × Bor ℤ)) (i : ℕ) (e : Bor VoteKey × Bor ℤ) → i < length rows → e ≡ get_or rows i e → new ≡ old ++ G (deref_pair e ∷ []) →
    old ++ G (map deref_pair (drop i rows)) ≡ whole → new ++ G (map deref_pair (drop (i + 1) rows)) ≡ whole
rows_more G next old new whole rows i e h is more before =
    let rest = map deref_pair (drop (i + 1) rows) in
    let front : G (map deref_pair (drop i rows)) ≡ G (deref_pair e ∷ []) ++ G rest =
    at_drop_more (λ xs. G (map deref_pair xs)) rows i e h ∙ (ap (λ x. G (deref_pair x ∷ rest)) (sym is) ∙ next (deref_pair e) rest) in
    ap (λ x. x ++ G rest) more ∙ (append_assoc old (G (deref_pair e ∷ [])) (G rest) ∙ (ap (λ x. old ++ x) (sym front) ∙ before))

-- ==== counting votes

lost_apart : (f : Copies) (n : ℕ) (rows : List (VoteKey × ℤ)) → IsStrictlySortedBy vote_cmp (keys_of rows) → AreApart (lost_rows f n rows)
unfolding IsStrictlySortedBy
lost_apart f n [] s = tt
lost_apart f n (e ∷ es) s = go (((e.0.patch == n) && voted e.1) && not (f e.0.label e.0.account e.1)) refl (lost_apart f n es s.1)
  where
    go : (b : Bool) → (((e.0.patch == n) && voted e.1) && not (f e.0.label e.0.account e.1)) ≡ b → AreApart (lost_rows f n es) → AreApart (if b then e.0 ∷ lost_rows f n es else lost_rows f n es)
    go true held rest =
        let x = and_parts (e.0.patch == n) (voted e.1) (and_parts ((e.0.patch == n) && voted e.1) (not (f e.0.label e.0.account e.1)) held).0 in
        let same : vote_key n e.0.label e.0.account ≡ e.0 = λ i. vote_key (sym (eqb-true e.0.patch n x.0) i) e.0.label e.0.account in (
          lost_is f n e.0.label e.0.account es s.1
              ∙ value_none f e.0.label e.0.account (row_in vote_cmp es (vote_key n e.0.label e.0.account)) (none_after vote_cmp e.0 (vote_key n e.0.label e.0.account) same es s.0),
          rest,
        )
    go false other rest = rest

-- the lost votes are counted
pub many_lost : (f : Copies) (n : ℕ) (votes : Votes) → IsStrictlySortedBy vote_cmp (keys_of (rows_of votes)) → (test : List ℕ → ℕ → Bool) →
    ((l : List ℕ) (u : ℕ) → (voted (vote_in votes n l u) && not (f l u (vote_in votes n l u))) ≡ test l u) → (k : ℕ) → length (lost_rows f n (rows_of votes)) ≡ k → AreMany test k
many_lost f n votes s test is k e = record {
  keys = lost_rows f n (rows_of votes);
  apart = lost_apart f n (rows_of votes) s;
  each = λ l u. lost_is f n l u (rows_of votes) s ∙ is l u;
  count = e;
}

-- the copied ones are those that the opposite would lose
as_many : (f : Copies) (n next : ℕ) (rows : List (VoteKey × ℤ)) → length (lost_rows (λ l u v. not (f l u v)) n rows) ≡ length (copied_rows f n next rows)
as_many f n next [] = refl
as_many f n next (e ∷ es) = go ((e.0.patch == n) && voted e.1) (f e.0.label e.0.account e.1) (as_many f n next es)
  where
    go : (a b : Bool) → length (lost_rows (λ l u v. not (f l u v)) n es) ≡ length (copied_rows f n next es)
        → length (if a && not (not b) then e.0 ∷ lost_rows (λ l u v. not (f l u v)) n es else lost_rows (λ l u v. not (f l u v)) n es)
        ≡ length (if a && b then (vote_key next e.0.label e.0.account, e.1) ∷ copied_rows f n next es else copied_rows f n next es)
    go true true rest = ap (λ k. suc k) rest
    go true false rest = rest
    go false b rest = rest

voted_where : (b : Bool) (v : ℤ) → (voted v && not (not b)) ≡ voted (if b then v else pos 0)
voted_where true v = and_true (voted v)
  where
    and_true : (a : Bool) → (a && true) ≡ a
    and_true true = refl
    and_true false = refl
voted_where false v = and_false (voted v)
  where
    and_false : (a : Bool) → (a && false) ≡ false
    and_false true = refl
    and_false false = refl

pub many_copied : (f : Copies) (n next : ℕ) (votes : Votes) → IsStrictlySortedBy vote_cmp (keys_of (rows_of votes)) → (test : List ℕ → ℕ → Bool) →
    ((l : List ℕ) (u : ℕ) → voted (if f l u (vote_in votes n l u) then vote_in votes n l u else pos 0) ≡ test l u) → (k : ℕ) → length (copied_rows f n next (rows_of votes)) ≡ k → AreMany test k
many_copied f n next votes s test is k e =
    many_lost (λ l u v. not (f l u v)) n votes s test (λ l u. voted_where (f l u (vote_in votes n l u)) (vote_in votes n l u) ∙ is l u) k (as_many f n next (rows_of votes) ∙ e)
