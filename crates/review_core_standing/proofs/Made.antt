-- The facts of a change from its rows, and how requirements stand by them.
use Rattle.std.proofs.Common.{◌≡◌, List, [], ◌∷◌, Option, Some, None, Bool, true, false, cond, refl, sym, ap, ◌∙◌, filter, ℕ, ℤ, length, not, ◌==◌, ◌&&◌, nat_cmp, is_some, option_map, map, BTreeMap, count_by, if◌then◌else◌, bytes_eq, subst, ⊎_elim, slice_get, suc, ◌-◌, arith}
use Rattle.std.proofs.lemmas.{Bool.cases_Bool, Cmp.nat_cmp_total, List.length-map, List.Sums.length-filter}
use Rattle.std.proofs.lemmas.Map.{Entries.option_filter, Lookups.btree_map_from_get, Lookups.exact_unsigned}
use Rattle.std.proofs.lemmas.{Map.Text.is_eq-slice_cmp, Slice.Eq.bytes_eq-Decides}
use Rattle.std.specs.{BTreeMap.is_at, BTreeMap.get, Cmp.Lexicographic.slice_cmp, List.AllByRecursion, List.list_any}
use Rattle.std.specs.{List.Sorted.IsStrictlySortedBy, Map.keys_of, Option.option_map_or, Option.option_or}
use Rattle.std.specs.declared.cmp.Ordering.{Ordering, TheVariants.Less}
use Rattle.review_names.specs.{Forms.components, Groups.GroupList, Groups.has_account}
use Rattle.review_expr_terms.specs.{Patterns.matches_whole, Views.view}
use Rattle.review_expr_terms.specs.declared.terms.{LabelTerm.LabelTerm, RequirementTerm.RequirementTerm, Voters.Voters}
use Rattle.review_table.specs.Rows.{row_in, rows_of}
use Rattle.review_words.specs.declared.shown.ShownRequirement.{ShownRequirement}
use Rattle.review_words.specs.declared.shown.Status.TheVariants.{NotApplicable, Overridden, Satisfied, Unsatisfied}
use Rattle.review_expr_judging.specs.Holds.{compares, is_count, is_counted, is_voter, label_holds, meets, votes_of, holds, requirement_holds, votes_on}
use Rattle.review_expr_judging.specs.declared.facts.{ChangeFacts.ChangeFacts, ValueRange.ValueRange}
use Rattle.review_expr.specs.{Exprs.holds_for, declared.expr.Expr.Expr}
use Rattle.review_file_rules.specs.View.{RequirementView}
use Rattle.review_core_rules.specs.Change.{Change, Setting, current, label_in, range_of, last_paths, last_uploader}
use Rattle.review_core_rules.specs.Facts.{AreFacts, AreStanding, stands, vote_on, unless_zero}
use Rattle.review_core_rules.specs.{Listed.AreThose, Listed.AreListed, Seen.Votes, Seen.value_of, Seen.vote_cmp}
use Rattle.review_core_rules.specs.{Votes.voted, declared.rows.PatchRow.PatchRow, declared.rows.VoteKey.VoteKey}
use Rattle.review_core_tables.proofs.Accounts.{accounts_tell, has_row}
use Rattle.review_core_tables.proofs.Copied.{Tells, none_after, at_sym, vote_key, votes_tell}
use Rattle.review_core_tables.specs.{Tables.put_in, inner.Words.or_else}
use Rattle.review_core_standing.specs.Counting.{counts, is_asked_for}
use Rattle.review_core_standing.specs.inner.Made.{AreOrdered, AreVotesOf, VoteMap, is_voted, on_label, vote_at}
use Rattle.review_expr_terms.specs.declared.terms.Voters.TheVariants as voters
use Rattle.review_expr_terms.specs.declared.terms.RequirementTerm.TheVariants as requirement
use Rattle.review_expr.specs.declared.expr.Expr.TheVariants as expr
use Rattle.review_expr.specs.declared.expr.Facts.TheVariants as facts

-- ==== rows in order of which some are kept, read at a key

row_where : {K X : Type 0} (R : K → K → Ordering) (b : Bool) (xs ys : List (K × X)) (q : K) → row_in R (cond b xs ys) q ≡ cond b (row_in R xs q) (row_in R ys q)
row_where R true xs ys q = refl
row_where R false xs ys q = refl

kept_step : {X : Type 0} (b d : Bool) (v : X) (rest more : Option X) (f : X → Bool) → rest ≡ option_filter f more → (d ≡ true → (f v ≡ b) × (more ≡ None)) →
    cond b (cond d (Some v) rest) rest ≡ option_filter f (cond d (Some v) more)
kept_step true true v rest more f ih here = sym (ap (λ b. cond b (Some v) None) (here refl).0)
kept_step false true v rest more f ih here = ih ∙ (ap (option_filter f) (here refl).1 ∙ sym (ap (λ b. cond b (Some v) None) (here refl).0))
kept_step true false v rest more f ih here = ih
kept_step false false v rest more f ih here = ih

-- the row of a key among those that are kept
pub row_kept : {K X : Type 0} {R : K → K → Ordering} → Tells R → (p : K × X → Bool) (rows : List (K × X)) → IsStrictlySortedBy R (keys_of rows) → (q : K) →
    row_in R (filter p rows) q ≡ option_filter (λ x. p (q, x)) (row_in R rows q)
unfolding IsStrictlySortedBy
row_kept t p [] s q = refl
row_kept {R = R} t p (e ∷ es) s q =
    row_where R (p e) (e ∷ filter p es) (filter p es) q
    ∙ kept_step (p e) (is_at (R q) e.0) e.1 (row_in R (filter p es) q) (row_in R es q) (λ x. p (q, x)) (row_kept t p es s.1 q)
    (λ h. let k = t.same q e.0 h in (ap (λ x. p (x, e.1)) k, none_after R e.0 q k es s.0))

all_kept : {K X : Type 0} (P : K → Type 0) (p : K × X → Bool) (rows : List (K × X)) → AllByRecursion P (keys_of rows) → AllByRecursion P (keys_of (filter p rows))
all_kept P p [] all = tt
all_kept P p (e ∷ es) all = at (p e) (all_kept P p es all.1)
  where
    at : (b : Bool) → AllByRecursion P (keys_of (filter p es)) → AllByRecursion P (keys_of (cond b (e ∷ filter p es) (filter p es)))
    at true rest = (all.0, rest)
    at false rest = rest

-- those that are kept are in order
pub order_kept : {K X : Type 0} (R : K → K → Ordering) (p : K × X → Bool) (rows : List (K × X)) → IsStrictlySortedBy R (keys_of rows) → IsStrictlySortedBy R (keys_of (filter p rows))
unfolding IsStrictlySortedBy
order_kept R p [] s = tt
order_kept R p (e ∷ es) s = at (p e) (order_kept R p es s.1)
  where
    at : (b : Bool) → IsStrictlySortedBy R (keys_of (filter p es)) → IsStrictlySortedBy R (keys_of (cond b (e ∷ filter p es) (filter p es)))
    at true rest = (all_kept (λ y. R e.0 y ≡ Less) p es s.0, rest)
    at false rest = rest

-- ==== a term counts accounts

pub voters_alike : (s : Setting) (c : Change) (f : ChangeFacts) (v : Voters) (a : ℕ) → AreFacts s c f → is_voter f v a ≡ is_asked_for s c v a
voters_alike s c f voters.NonUploader a h = ap (λ u. not (a == u)) h.uploader
voters_alike s c f voters.Owner a h = ap (λ u. a == u) h.owner
voters_alike s c f (voters.Group g) a h = ap (λ (l : GroupList). has_account l g a) h.groups
voters_alike s c f _ a h = refl

counted_alike : (s : Setting) (c : Change) (f : ChangeFacts) (t : LabelTerm) (a : ℕ) (v : ℤ) → AreFacts s c f → v ≡ c.vote (current c) t.label a → is_counted f t (a, v) ≡ counts s c t a
counted_alike s c f t a v h is = λ i. meets (h.ranges t.label i) t.comparison (is i) && voters_alike s c f t.voters a h i

pub some_where : {X : Type 0} (b : Bool) (x : X) → is_some (cond b (Some x) None) ≡ b
some_where true x = refl
some_where false x = refl

-- an account counts where its vote is one of those that count
at_vote : (s : Setting) (c : Change) (f : ChangeFacts) (t : LabelTerm) (a : ℕ) → AreFacts s c f → (b : Bool) → voted (c.vote (current c) t.label a) ≡ b →
    is_some (option_filter (λ v. is_counted f t (a, v)) (cond b (Some (c.vote (current c) t.label a)) None)) ≡ counts s c t a
at_vote s c f t a h true is = some_where (is_counted f t (a, c.vote (current c) t.label a)) (c.vote (current c) t.label a) ∙ counted_alike s c f t a (c.vote (current c) t.label a) h refl
at_vote s c f t a h false is =
    sym (ap (λ b. (b && compares (option_map range_of (label_in s.file t.label)) t.comparison (c.vote (current c) t.label a)) && is_asked_for s c t.voters a) is)

keys_many : (rows : List (ℕ × ℤ)) → length (keys_of rows) ≡ length rows
keys_many rows = length-map rows (λ e. e.0)

pub accounts_counted : (s : Setting) (c : Change) (f : ChangeFacts) (t : LabelTerm) → AreFacts s c f → (accounts : List ℕ) × AreThose (counts s c t) accounts × (label_holds f t ≡ is_count t.count (length accounts))
accounts_counted s c f t h =
    let rows = votes_of f t.label in
    let listed = h.votes t.label in (
      keys_of (filter (is_counted f t) rows),
      record {
        ordered = order_kept nat_cmp (is_counted f t) rows listed.ordered;
        each = λ a. has_row (filter (is_counted f t) rows) a
            ∙ (ap is_some (row_kept accounts_tell (is_counted f t) rows listed.ordered a ∙ ap (option_filter (λ v. is_counted f t (a, v))) (listed.each a))
            ∙ at_vote s c f t a h (voted (c.vote (current c) t.label a)) refl);
      },
      ap (is_count t.count) (sym (length-filter (is_counted f t) rows) ∙ sym (keys_many (filter (is_counted f t) rows))),
    )

-- ==== requirements stand in one way

none_listed : (rows : List (ℕ × ℤ)) → ((a : ℕ) → row_in nat_cmp rows a ≡ None) → rows ≡ []
none_listed [] none = refl
none_listed (e ∷ rows) none =
    let here : row_in nat_cmp (e ∷ rows) e.0 ≡ Some e.1 = ap (λ b. if b then Some e.1 else row_in nat_cmp rows e.0) (accounts_tell.self e.0) in
    let bad : Some e.1 ≡ None = sym here ∙ none e.0 in
    absurd (cc)

one_list : (o p : Option (BTreeMap ℕ ℤ)) (what : ℕ → Option ℤ) → AreListed nat_cmp what (votes_on o) → AreListed nat_cmp what (votes_on p) → votes_on o ≡ votes_on p
one_list None None what a b = refl
one_list None (Some m) what a b = sym (none_listed m.entries (λ q. b.each q ∙ sym (a.each q)))
one_list (Some m) None what a b = none_listed m.entries (λ q. a.each q ∙ sym (b.each q))
one_list (Some m) (Some n) what a b = btree_map_from_get nat_cmp_total m n a.ordered b.ordered (λ q. a.each q ∙ sym (b.each q)) exact_unsigned

count_alike : (p q : ℕ × ℤ → Bool) (rows : List (ℕ × ℤ)) → ((e : ℕ × ℤ) → p e ≡ q e) → count_by p rows ≡ count_by q rows
count_alike p q rows same = ap (λ (t : ℕ × ℤ → Bool). count_by t rows) (λ i e. same e i)

counted_one : (s : Setting) (c : Change) (f g : ChangeFacts) (t : LabelTerm) → AreFacts s c f → AreFacts s c g → (e : ℕ × ℤ) → is_counted f t e ≡ is_counted g t e
counted_one s c f g t a b e =
    λ i. meets ((a.ranges t.label ∙ sym (b.ranges t.label)) i) t.comparison e.1 && (voters_alike s c f t.voters e.0 a ∙ sym (voters_alike s c g t.voters e.0 b)) i

label_one : (s : Setting) (c : Change) (f g : ChangeFacts) (t : LabelTerm) → AreFacts s c f → AreFacts s c g → label_holds f t ≡ label_holds g t
label_one s c f g t a b =
    ap (is_count t.count)
    (ap (count_by (is_counted f t)) (one_list (get (slice_cmp nat_cmp) f.votes t.label) (get (slice_cmp nat_cmp) g.votes t.label) (vote_on c t.label) (a.votes t.label) (b.votes t.label))
    ∙ count_alike (is_counted f t) (is_counted g t) (votes_of g t.label) (counted_one s c f g t a b))

term_one : (s : Setting) (c : Change) (f g : ChangeFacts) → AreFacts s c f → AreFacts s c g → (t : RequirementTerm) → requirement_holds f t ≡ requirement_holds g t
term_one s c f g a b (requirement.Always v) = refl
term_one s c f g a b (requirement.Label t) = label_one s c f g t a b
term_one s c f g a b (requirement.UploaderIn group) = λ i. has_account ((a.groups ∙ sym b.groups) i) group ((a.uploader ∙ sym b.uploader) i)
term_one s c f g a b (requirement.OwnerIn group) = λ i. has_account ((a.groups ∙ sym b.groups) i) group ((a.owner ∙ sym b.owner) i)
term_one s c f g a b (requirement.Branch name) = ap (λ x. bytes_eq x name) (a.branch ∙ sym b.branch)
term_one s c f g a b (requirement.BranchMatches re) = ap (matches_whole re) (a.branch ∙ sym b.branch)
term_one s c f g a b (requirement.Path path) = ap (list_any (λ p. bytes_eq p path)) (a.paths ∙ sym b.paths)
term_one s c f g a b (requirement.PathMatches re) = ap (list_any (matches_whole re)) (a.paths ∙ sym b.paths)
term_one s c f g a b (requirement.File name) = ap (list_any (λ p. list_any (λ part. bytes_eq part name) (components p))) (a.paths ∙ sym b.paths)
term_one s c f g a b requirement.Unresolved = a.unresolved ∙ sym b.unresolved

holds_one : (s : Setting) (c : Change) (f g : ChangeFacts) → AreFacts s c f → AreFacts s c g → (e : Expr) → holds_for (facts.Change f) e ≡ holds_for (facts.Change g) e
holds_one s c f g a b (expr.Requirement e) = ap (λ (p : RequirementTerm → Bool). holds p (view e.node)) (λ i t. term_one s c f g a b t i)
holds_one s c f g a b (expr.Copy e) = refl

or_one : (s : Setting) (c : Change) (f g : ChangeFacts) → AreFacts s c f → AreFacts s c g → (o : Option Expr) (d : Bool) → option_map_or (holds_for (facts.Change f)) o d ≡ option_map_or (holds_for (facts.Change g)) o d
or_one s c f g a b None d = refl
or_one s c f g a b (Some e) d = holds_one s c f g a b e

stands_one : (s : Setting) (c : Change) (f g : ChangeFacts) → AreFacts s c f → AreFacts s c g → (q : RequirementView Expr) → stands f q ≡ stands g q
stands_one s c f g a b q =
    let x = or_one s c f g a b q.applicable_if true in
    let y = or_one s c f g a b q.override_if false in
    let z = holds_one s c f g a b q.submittable_if in
    λ i. record { name = q.name; status = if not (x i) then NotApplicable else if y i then Overridden else if z i then Satisfied else Unsatisfied }

all_one : (s : Setting) (c : Change) (f g : ChangeFacts) → AreFacts s c f → AreFacts s c g → (qs : List (RequirementView Expr)) → map (stands f) qs ≡ map (stands g) qs
all_one s c f g a b [] = refl
all_one s c f g a b (q ∷ qs) = λ i. stands_one s c f g a b q i ∷ all_one s c f g a b qs i

pub one : (s : Setting) (c : Change) (a b : List ShownRequirement) → AreStanding s c a → AreStanding s c b → a ≡ b
one s c a b x y = x.each ∙ (all_one s c x.facts y.facts x.are_facts y.are_facts s.file.requirements ∙ sym y.each)

-- ==== the facts of a change, from its rows

-- ---- votes by label and account

-- a vote that is put
pub vote_added : (old mid new : VoteMap) (on : BTreeMap ℕ ℤ) (label : List ℕ) (account : ℕ) (value : ℤ) →
    ((l : List ℕ) → bytes_eq label l ≡ false → get (slice_cmp nat_cmp) mid l ≡ get (slice_cmp nat_cmp) old l) →
    ((l : List ℕ) → get (slice_cmp nat_cmp) new l ≡ cond (is_at (slice_cmp nat_cmp label) l) (Some on) (get (slice_cmp nat_cmp) mid l)) →
    ((a : ℕ) → row_in nat_cmp on.entries a ≡ cond (account == a) (Some value) (row_in nat_cmp (on_label old label) a)) →
    (l : List ℕ) (a : ℕ) → vote_at new l a ≡ cond (bytes_eq label l) (cond (account == a) (Some value) (vote_at old l a)) (vote_at old l a)
vote_added old mid new on label account value others is put l a = ⊎_elim here there (cases_Bool (bytes_eq label l))
  where
    here : bytes_eq label l ≡ true → vote_at new l a ≡ cond (bytes_eq label l) (cond (account == a) (Some value) (vote_at old l a)) (vote_at old l a)
    here e =
        ap (λ o. row_in nat_cmp (votes_on o) a) (is l ∙ ap (λ b. cond b (Some on) (get (slice_cmp nat_cmp) mid l)) (is_eq-slice_cmp label l ∙ e))
        ∙ (put a ∙ (ap (λ x. cond (account == a) (Some value) (vote_at old x a)) ((bytes_eq-Decides label l).0 e)
        ∙ sym (ap (λ b. cond b (cond (account == a) (Some value) (vote_at old l a)) (vote_at old l a)) e)))

    there : bytes_eq label l ≡ false → vote_at new l a ≡ cond (bytes_eq label l) (cond (account == a) (Some value) (vote_at old l a)) (vote_at old l a)
    there e =
        ap (λ o. row_in nat_cmp (votes_on o) a) (is l ∙ (ap (λ b. cond b (Some on) (get (slice_cmp nat_cmp) mid l)) (is_eq-slice_cmp label l ∙ e) ∙ others l e))
        ∙ sym (ap (λ b. cond b (cond (account == a) (Some value) (vote_at old l a)) (vote_at old l a)) e)

pub still_ordered : (old mid new : VoteMap) (on : BTreeMap ℕ ℤ) (label : List ℕ) →
    ((l : List ℕ) → bytes_eq label l ≡ false → get (slice_cmp nat_cmp) mid l ≡ get (slice_cmp nat_cmp) old l) →
    ((l : List ℕ) → get (slice_cmp nat_cmp) new l ≡ cond (is_at (slice_cmp nat_cmp label) l) (Some on) (get (slice_cmp nat_cmp) mid l)) →
    IsStrictlySortedBy nat_cmp (keys_of on.entries) → AreOrdered old → AreOrdered new
still_ordered old mid new on label others is sorted before l = ⊎_elim here there (cases_Bool (bytes_eq label l))
  where
    here : bytes_eq label l ≡ true → IsStrictlySortedBy nat_cmp (keys_of (on_label new l))
    here e = subst (λ o. IsStrictlySortedBy nat_cmp (keys_of (votes_on o))) (sym (is l ∙ ap (λ b. cond b (Some on) (get (slice_cmp nat_cmp) mid l)) (is_eq-slice_cmp label l ∙ e))) sorted

    there : bytes_eq label l ≡ false → IsStrictlySortedBy nat_cmp (keys_of (on_label new l))
    there e =
        subst (λ o. IsStrictlySortedBy nat_cmp (keys_of (votes_on o)))
        (sym (is l ∙ (ap (λ b. cond b (Some on) (get (slice_cmp nat_cmp) mid l)) (is_eq-slice_cmp label l ∙ e) ∙ others l e))) (before l)

pub both_tests : {X : Type 0} (b d : Bool) (x y : X) → cond b (cond d x y) y ≡ cond (b && d) x y
both_tests true d x y = refl
both_tests false d x y = refl

-- ---- rows that are put one after the other

put_sorted : {K X : Type 0} {R : K → K → Ordering} → Tells R → (rows : List (K × X)) → IsStrictlySortedBy R (keys_of rows) → (q : K) (before : Option X) → put_in R rows q before ≡ or_else (row_in R rows q) before
unfolding IsStrictlySortedBy
put_sorted t [] s q before = refl
put_sorted {X = X} {R = R} t (e ∷ es) s q before =
    put_sorted t es s.1 q (cond (is_at (R e.0) q) (Some e.1) before)
    ∙ (ap (λ b. or_else (row_in R es q) (cond b (Some e.1) before)) (at_sym t e.0 q)
    ∙ at (is_at (R q) e.0) (row_in R es q) (λ h. none_after R e.0 q (t.same q e.0 h) es s.0))
  where
    at : (b : Bool) (rest : Option X) → (b ≡ true → rest ≡ None) → or_else rest (cond b (Some e.1) before) ≡ or_else (cond b (Some e.1) rest) before
    at true rest none = ap (λ o. or_else o (Some e.1)) (none refl)
    at false rest none = refl

or_none : {X : Type 0} (o : Option X) → or_else o None ≡ o
or_none None = refl
or_none (Some x) = refl

pub value_kept : (o : Option ℤ) → option_filter voted o ≡ unless_zero (value_of o)
value_kept None = refl
value_kept (Some v) = refl

-- the votes on a patch set, from the rows
pub votes_made : (n : ℕ) (table : Votes) (votes : VoteMap) → IsStrictlySortedBy vote_cmp (keys_of (rows_of table)) → AreOrdered votes →
    ((l : List ℕ) (a : ℕ) → vote_at votes l a ≡ put_in vote_cmp (filter is_voted (rows_of table)) (vote_key n l a) None) → AreVotesOf n table votes
votes_made n table votes sorted ordered is l = record {
  ordered = ordered l;
  each = λ a. is l a
      ∙ (put_sorted votes_tell (filter is_voted (rows_of table)) (order_kept vote_cmp is_voted (rows_of table) sorted) (vote_key n l a) None
      ∙ (or_none (row_in vote_cmp (filter is_voted (rows_of table)) (vote_key n l a))
      ∙ (row_kept votes_tell is_voted (rows_of table) sorted (vote_key n l a) ∙ value_kept (row_in vote_cmp (rows_of table) (vote_key n l a)))));
}

-- one row more
pub voted_more : (e : VoteKey × ℤ) (es : List (VoteKey × ℤ)) (q : VoteKey) (before : Option ℤ) → is_voted e ≡ true → put_in vote_cmp (filter is_voted (e ∷ es)) q before ≡ put_in vote_cmp (filter is_voted es) q (cond (is_at (vote_cmp e.0) q) (Some e.1) before)
voted_more e es q before is = ap (λ b. put_in vote_cmp (cond b (e ∷ filter is_voted es) (filter is_voted es)) q before) is

-- ---- ranges

or_nothing : {X : Type 0} (o : Option X) → o ≡ option_or o None
or_nothing None = refl
or_nothing (Some x) = refl

none_or : {X : Type 0} (o p : Option X) → is_some o ≡ false → p ≡ option_or o p
none_or None p e = refl
none_or (Some x) p e = absurd (cc)

-- it gets one
pub range_new : (old new : BTreeMap (List ℕ) ValueRange) (name : List ℕ) (r : ValueRange) → is_some (get (slice_cmp nat_cmp) old name) ≡ false →
    ((l : List ℕ) → get (slice_cmp nat_cmp) new l ≡ cond (is_at (slice_cmp nat_cmp name) l) (Some r) (get (slice_cmp nat_cmp) old l)) → (l : List ℕ) →
    get (slice_cmp nat_cmp) new l ≡ option_or (get (slice_cmp nat_cmp) old l) (cond (bytes_eq name l) (Some r) None)
range_new old new name r none is l = ⊎_elim
    (λ (e : bytes_eq name l ≡ true).
    is l ∙ (ap (λ b. cond b (Some r) (get (slice_cmp nat_cmp) old l)) (is_eq-slice_cmp name l ∙ e)
    ∙ (none_or (get (slice_cmp nat_cmp) old l) (Some r) (sym (ap (λ x. is_some (get (slice_cmp nat_cmp) old x)) ((bytes_eq-Decides name l).0 e)) ∙ none)
    ∙ sym (ap (λ b. option_or (get (slice_cmp nat_cmp) old l) (cond b (Some r) None)) e))))
    (λ (e : bytes_eq name l ≡ false).
    is l ∙ (ap (λ b. cond b (Some r) (get (slice_cmp nat_cmp) old l)) (is_eq-slice_cmp name l ∙ e)
    ∙ (or_nothing (get (slice_cmp nat_cmp) old l) ∙ sym (ap (λ b. option_or (get (slice_cmp nat_cmp) old l) (cond b (Some r) None)) e))))
    (cases_Bool (bytes_eq name l))

-- ---- the last patch set

pub last_sender : (before : ℕ) (patches : List PatchRow) (p : PatchRow) → slice_get patches (length patches - 1) ≡ Some p → last_uploader before patches ≡ p.uploader
last_sender before [] p is = absurd (cc)
last_sender before (q ∷ []) p is = let same : q ≡ p = cc in ap (λ x. x.uploader) same
last_sender before (q ∷ r ∷ ps) p is =
    let at : length (q ∷ r ∷ ps) - 1 ≡ suc (length (r ∷ ps) - 1) = omega arith in
    last_sender q.uploader (r ∷ ps) p (subst (λ k. slice_get (q ∷ r ∷ ps) k ≡ Some p) at is)

pub last_of_paths : (before : List (List ℕ)) (patches : List PatchRow) (p : PatchRow) → slice_get patches (length patches - 1) ≡ Some p → last_paths before patches ≡ p.paths
last_of_paths before [] p is = absurd (cc)
last_of_paths before (q ∷ []) p is = let same : q ≡ p = cc in ap (λ x. x.paths) same
last_of_paths before (q ∷ r ∷ ps) p is =
    let at : length (q ∷ r ∷ ps) - 1 ≡ suc (length (r ∷ ps) - 1) = omega arith in
    last_of_paths q.paths (r ∷ ps) p (subst (λ k. slice_get (q ∷ r ∷ ps) k ≡ Some p) at is)
