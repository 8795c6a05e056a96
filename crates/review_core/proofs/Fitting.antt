-- Rows that fit together.
use Rattle.std.proofs.Common.{◌≡◌, List, [], ◌∷◌, Option, Some, None, Bool, true, false, refl, sym, ap, ◌∙◌, unwrap_or, if◌then◌else◌, ℕ, ℤ, not, ◌&&◌, ◌||◌, eq-eqb, eqb-true, length, nat_le, nat_cmp, ◌==◌, is_some, ◌+◌, pos, arith}
use Rattle.std.proofs.lemmas.Bool.{and_parts, and_from, false_from_ne_true}
use Rattle.std.specs.{BTreeMap.is_at, List.list_all, List.Sorted.IsStrictlySortedBy, Map.keys_of}
use Rattle.std.specs.declared.cmp.Ordering.{Ordering}
use Rattle.review_names.specs.Forms.{is_within, most_comments, most_patches}
use Rattle.review_table.specs.Rows.{row_in, rows_of}
use Rattle.review_core_rules.proofs.Stays.{zero_of, within_parts}
use Rattle.review_core_rules.specs.Change.{current, uploader, Change}
use Rattle.review_core_rules.specs.Seen.{of_account, seen, value_of, vote_cmp, vote_in}
use Rattle.review_core_rules.specs.{Sound.IsSound, Sound.are_in_order, Votes.voted}
use Rattle.review_core_rules.specs.declared.rows.{AttentionEntry.AttentionEntry, ChangeRows.ChangeRows, VoteKey.VoteKey}
use Rattle.review_core_tables.proofs.Accounts.{accounts_tell}
use Rattle.review_core_tables.proofs.Copied.{Tells, none_after, vote_key, votes_tell}
use Rattle.review_core.specs.Tests.{are_counted, is_called_in_place, is_in_place}

-- ==== a test of all rows, and of the row at a key

at_step : {K X : Type 0} (p : K × X → Bool) (b : Bool) (e : K × X) (q : K) (x : X) (rest : Option X) → (b ≡ true → q ≡ e.0) → p e ≡ true → (rest ≡ Some x → p (q, x) ≡ true) → (if b then Some e.1 else rest) ≡ Some x → p (q, x) ≡ true
at_step p true e q x rest same here more h =
    let v : e.1 ≡ x = ap (λ o. unwrap_or o e.1) h in
    let k = same refl in
    let along : p (q, x) ≡ p (e.0, e.1) = λ i. p (k i, sym v i) in
    along ∙ here
at_step p false e q x rest same here more h = more h

-- what holds of all rows holds of the row at a key
pub all_at : {K X : Type 0} {R : K → K → Ordering} → Tells R → (p : K × X → Bool) (rows : List (K × X)) → list_all p rows ≡ true → (q : K) (x : X) → row_in R rows q ≡ Some x → p (q, x) ≡ true
all_at t p [] all q x h = absurd (let e : None ≡ Some x = h in cc)
all_at {R = R} t p (e ∷ es) all q x h =
    let a = and_parts (p e) (list_all p es) all in
    at_step p (is_at (R q) e.0) e q x (row_in R es q) (t.same q e.0) a.0 (all_at t p es a.1 q x) h

here_step : {X : Type 0} (b : Bool) (x : X) (rest : Option X) → b ≡ true → (if b then Some x else rest) ≡ Some x
here_step true x rest h = refl
here_step false x rest h = absurd (let e : false ≡ true = h in cc)

later_step : {X : Type 0} (b : Bool) (y x : X) (rest : Option X) → (b ≡ true → rest ≡ None) → rest ≡ Some x → (if b then Some y else rest) ≡ Some x
later_step true y x rest none h = absurd (let e : None ≡ Some x = sym (none refl) ∙ h in cc)
later_step false y x rest none h = h

-- what holds of the row at each key holds of all rows
pub all_from : {K X : Type 0} {R : K → K → Ordering} → Tells R → (p : K × X → Bool) (rows : List (K × X)) → IsStrictlySortedBy R (keys_of rows) → ((q : K) (x : X) → row_in R rows q ≡ Some x → p (q, x) ≡ true) → list_all p rows ≡ true
unfolding IsStrictlySortedBy
all_from t p [] s f = refl
all_from {R = R} t p (e ∷ es) s f =
    and_from (p e) (list_all p es)
    (f e.0 e.1 (here_step (is_at (R e.0) e.0) e.1 (row_in R es e.0) (t.self e.0)))
    (all_from t p es s.1 (λ q x h. f q x (later_step (is_at (R q) e.0) e.1 x (row_in R es q) (λ y. none_after R e.0 q (t.same q e.0 y) es s.0) h)))

-- ==== rows that fit together, by tests of them one by one

voted_row : (o : Option ℤ) → voted (value_of o) ≡ true → (v : ℤ) × (o ≡ Some v) × (voted v ≡ true)
voted_row None h = absurd (let e : false ≡ true = h in cc)
voted_row (Some v) h = (v, refl, h)

some_row : {X : Type 0} (o : Option X) → is_some o ≡ true → (x : X) × (o ≡ Some x)
some_row None h = absurd (let e : false ≡ true = h in cc)
some_row (Some x) h = (x, refl)

not_or : (a b : Bool) → a ≡ true → (not a || b) ≡ true → b ≡ true
not_or true b e h = h
not_or false b e h = absurd (let f : false ≡ true = e in cc)

or_not : (a b : Bool) → (a ≡ true → b ≡ true) → (not a || b) ≡ true
or_not true b f = f refl
or_not false b f = refl

abbrev pub place_test : ChangeRows → VoteKey × ℤ → Bool
place_test rows = is_in_place (length rows.patches.items) (of_account rows.roles)

abbrev pub call_test : ChangeRows → ℕ × AttentionEntry → Bool
call_test rows = is_called_in_place rows.header.owner (uploader (seen rows)) (of_account rows.roles)

-- a vote that is there passes its test
in_place : (rows : ChangeRows) → list_all (place_test rows) (rows_of rows.votes) ≡ true → (n : ℕ) (l : List ℕ) (a : ℕ) → voted (vote_in rows.votes n l a) ≡ true →
    (is_within (current (seen rows)) n && (not (n == current (seen rows)) || is_some (of_account rows.roles a))) ≡ true
in_place rows all n l a h =
    let r = voted_row (row_in vote_cmp (rows_of rows.votes) (vote_key n l a)) h in
    not_or (voted r.0) (is_within (current (seen rows)) n && (not (n == current (seen rows)) || is_some (of_account rows.roles a))) r.2
    (all_at votes_tell (place_test rows) (rows_of rows.votes) all (vote_key n l a) r.0 r.1)

-- rows that pass the tests fit together
pub fitting : (rows : ChangeRows) → are_counted (length rows.patches.items) (length rows.comments.items) ≡ true → are_in_order (length rows.patches.items) 0 rows.comments.items ≡ true →
    list_all (place_test rows) (rows_of rows.votes) ≡ true → list_all (call_test rows) (rows_of rows.attention) ≡ true → IsSound (seen rows)
fitting rows counted ordered votes called =
    let c = seen rows in
    let p = and_parts (is_within most_patches (length rows.patches.items)) (nat_le (length rows.comments.items) most_comments) counted in
    record {
      patches = p.0;
      comments = p.1;
      on_patches = λ n l a h. (and_parts (is_within (current c) n) (not (n == current c) || is_some (c.role a)) (in_place rows votes n l a h)).0;
      in_order = ordered;
      voters = λ l a h.
          not_or (current c == current c) (is_some (c.role a)) (eq-eqb (current c) (current c) refl)
          (and_parts (is_within (current c) (current c)) (not (current c == current c) || is_some (c.role a)) (in_place rows votes (current c) l a h)).1;
      attending = λ u h.
          let r = some_row (of_account rows.attention u) h in
          all_at accounts_tell (call_test rows) (rows_of rows.attention) called u r.0 r.1;
    }

-- and rows that fit together pass the tests
place_passes : (rows : ChangeRows) → IsSound (seen rows) → (q : VoteKey) (x : ℤ) → row_in vote_cmp (rows_of rows.votes) q ≡ Some x → place_test rows (q, x) ≡ true
place_passes rows s q x h =
    let c = seen rows in
    or_not (voted x) (is_within (current c) q.patch && (not (q.patch == current c) || is_some (c.role q.account))) (λ yes.
    let there : voted (c.vote q.patch q.label q.account) ≡ true = ap (λ o. voted (value_of o)) h ∙ yes in
    and_from (is_within (current c) q.patch) (not (q.patch == current c) || is_some (c.role q.account))
    (s.on_patches q.patch q.label q.account there)
    (or_not (q.patch == current c) (is_some (c.role q.account)) (λ same.
    s.voters q.label q.account (ap (λ n. voted (c.vote n q.label q.account)) (sym (eqb-true q.patch (current c) same)) ∙ there))))

call_passes : (rows : ChangeRows) → IsSound (seen rows) → (u : ℕ) (x : AttentionEntry) → row_in nat_cmp (rows_of rows.attention) u ≡ Some x → call_test rows (u, x) ≡ true
call_passes rows s u x h = s.attending u (ap is_some h)

pub passing : (rows : ChangeRows) → IsStrictlySortedBy vote_cmp (keys_of (rows_of rows.votes)) → IsStrictlySortedBy nat_cmp (keys_of (rows_of rows.attention)) → IsSound (seen rows) →
    (are_counted (length rows.patches.items) (length rows.comments.items)
    && (are_in_order (length rows.patches.items) 0 rows.comments.items && (list_all (place_test rows) (rows_of rows.votes) && list_all (call_test rows) (rows_of rows.attention)))) ≡ true
passing rows votes_sorted called_sorted s =
    and_from (are_counted (length rows.patches.items) (length rows.comments.items))
    (are_in_order (length rows.patches.items) 0 rows.comments.items && (list_all (place_test rows) (rows_of rows.votes) && list_all (call_test rows) (rows_of rows.attention)))
    (and_from (is_within most_patches (length rows.patches.items)) (nat_le (length rows.comments.items) most_comments) s.patches s.comments)
    (and_from (are_in_order (length rows.patches.items) 0 rows.comments.items) (list_all (place_test rows) (rows_of rows.votes) && list_all (call_test rows) (rows_of rows.attention)) s.in_order
    (and_from (list_all (place_test rows) (rows_of rows.votes)) (list_all (call_test rows) (rows_of rows.attention))
    (all_from votes_tell (place_test rows) (rows_of rows.votes) votes_sorted (place_passes rows s))
    (all_from accounts_tell (call_test rows) (rows_of rows.attention) called_sorted (call_passes rows s))))

-- ==== what the definitions say of rows that are made

-- the next patch set has no votes yet
pub next_free : (c : Change) → IsSound c → (l : List ℕ) (a : ℕ) → c.vote (current c + 1) l a ≡ pos 0
next_free c s l a =
    zero_of (c.vote (current c + 1) l a) (false_from_ne_true (voted (c.vote (current c + 1) l a)) (λ yes.
    let p = within_parts (current c) (current c + 1) (s.on_patches (current c + 1) l a yes) in
    absurd (omega (arith, p.1))))
