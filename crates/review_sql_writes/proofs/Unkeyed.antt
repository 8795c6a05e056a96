-- What is written leaves the rows that have no key of their table.
use Rattle.std.proofs.lemmas.Bool.{not-false}
use Rattle.review_sql_tables.proofs.Common.{pos, negsuc, ◌≡◌, ◌∙◌, ◌==◌, ◌++◌, ◌||◌, ◌+◌, ℕ, List, [], ◌∷◌, Bool, cond, true, false, not, Option, Some, None, filter, refl, sym, ap, subst, inl, inr, eqb-true, and_from, and_parts, cases_Bool, eqb-false, AllByRecursion, list_any, Trees, Raw, column, Value, Null, Int, Real, Text, Blob, RowEdit, RemovesWhere, is_number_below, is_natural, is_tree, SetsParts, Search, SetsRow, SetsRows, Then}
use Rattle.review_sql_records.proofs.Common.{ChangeEdit, Delta, Kept, Put, projects, answers, is_of_lower}
use Rattle.review_sql_records.specs.Forms.{accounts, members, bases, desk, epochs}
use Rattle.review_sql_change_records.specs.Forms.{headers, patches, votes, roles, comments, attention_entries}
use Rattle.review_sql_lookups.specs.Tables.{has_unkeyed, keyed_tables}
use Rattle.review_sql_writes.specs.inner.Words.{GivesUp, SetsDelta, SetsDesk, SetsEdit, SetsEdits, SetsKept, SetsPut, SetsUnless, is_named, SetsFirst}

-- which rows of a tree have a key
abbrev keyed_of : ℕ → Raw → Bool
keyed_of t =
    cond (t == 0) accounts.keyed (cond (t == 2) members.keyed (cond (t == 26) projects.keyed (cond (t == 6) bases.keyed (cond (t == 9) headers.keyed (cond (t == 11) patches.keyed
    (cond (t == 14) votes.keyed (cond (t == 16) roles.keyed (cond (t == 18) comments.keyed (cond (t == 20) attention_entries.keyed (cond (t == 28) answers.keyed desk.keyed))))))))))

-- the rows without a key are as they were
pub record Keeps (old new : Trees) : Type 0 where
  pub rows : (t : ℕ) → is_tree t ≡ true → filter (λ r. not (keyed_of t r)) (new t) ≡ filter (λ r. not (keyed_of t r)) (old t)

keeps_same : (old new : Trees) → new ≡ old → Keeps old new
keeps_same old new same = record { rows = λ t is. ap (λ (d : Trees). filter (λ r. not (keyed_of t r)) (d t)) same }

keeps_then : (old mid new : Trees) → Keeps old mid → Keeps mid new → Keeps old new
keeps_then old mid new one two = record { rows = λ t is. two.rows t is ∙ one.rows t is }

-- rows that a test passes are none that go
pub pass_still : (p q : Raw → Bool) (rows : List Raw) → ((r : Raw) → q r ≡ false → p r ≡ false) → filter p (filter q rows) ≡ filter p rows
pass_still p q [] goes = refl
pass_still p q (r ∷ rows) goes = elim (cases_Bool (q r)) [
  | inl stays ↦ rw stays (elim (cases_Bool (p r)) [ inl asked ↦ rw asked (ap (λ l. r ∷ l) (pass_still p q rows goes)) | inr other ↦ rw other (pass_still p q rows goes) ])
  | inr gone ↦ rw (gone, goes r gone) (pass_still p q rows goes)
]

-- what is so of no value is so of none that isn't
-- a stored request of a lower epoch has a key
lower_keyed : (least : ℕ) (r : Raw) → is_of_lower least r ≡ true → answers.keyed r ≡ true
lower_keyed least r is =
    let parts = and_parts _ _ is in
    let rest = and_parts _ _ parts.1 in
    and_from _ _ rest.0 (and_from _ _ (number (column r 2) parts.0) rest.1)
  where
    number : (v : Value) → is_number_below least v ≡ true → is_natural v ≡ true
    number Null is = absurd (cc)
    number (Int (pos n)) is = refl
    number (Int (negsuc n)) is = absurd (cc)
    number (Real x) is = absurd (cc)
    number (Text t) is = absurd (cc)
    number (Blob b) is = absurd (cc)

keeps_removed : (least : ℕ) (old new : Trees) → RemovesWhere 28 (is_of_lower least) old new → Keeps old new
keeps_removed least old new h = record {
  rows = λ t is. elim (cases_Bool (t == 28)) [
    | inl here ↦ subst (λ n. filter (λ r. not (keyed_of n r)) (new n) ≡ filter (λ r. not (keyed_of n r)) (old n)) (sym (eqb-true t 28 here))
        (ap (filter (λ r. not (answers.keyed r))) h.rows ∙ pass_still (λ r. not (answers.keyed r)) (λ r. not (is_of_lower least r)) (old 28) (λ r gone. ap not (lower_keyed least r (not-false (is_of_lower least r) gone))))
    | inr other ↦ ap (filter (λ r. not (keyed_of t r))) (h.others t is (eqb-false t 28 other))
  ];
}

module _ {A X : Type 0} (s : Search A X) (same : s.keyed ≡ keyed_of s.tree) where
  keeps_row : (key : A) (row : Option X) (old new : Trees) → SetsRow s key row old new → Keeps old new
  keeps_row key row old new h = record {
    rows = λ t is. elim (cases_Bool (t == s.tree)) [
      | inl here ↦ subst (λ n. filter (λ r. not (keyed_of n r)) (new n) ≡ filter (λ r. not (keyed_of n r)) (old n)) (sym (eqb-true t s.tree here))
          (subst (λ (k : Raw → Bool). filter (λ r. not (k r)) (new s.tree) ≡ filter (λ r. not (k r)) (old s.tree)) same (h.apart (λ r. not (s.keyed r)) (λ r has. ap not (h.formed r has))))
      | inr other ↦ ap (filter (λ r. not (keyed_of t r))) (h.others t is (eqb-false t s.tree other))
    ];
  }

  keeps_rows : (cs : List (RowEdit A X)) (old new : Trees) → SetsRows s cs old new → Keeps old new
  keeps_rows [] old new h = keeps_same old new h
  keeps_rows (c ∷ cs) old new h = keeps_then old h.0 new (keeps_rows cs old h.0 h.1) (keeps_row c.key c.row h.0 new h.2)

  keeps_put : (put : Option (Put A X)) (old new : Trees) → SetsPut s put old new → Keeps old new
  keeps_put None old new h = keeps_same old new h
  keeps_put (Some put) old new h = keeps_row put.key (Some put.row) old new h

module _ {O K X : Type 0} (s : Search (O × K) X) (same : s.keyed ≡ keyed_of s.tree) (o : O) where
  keeps_parts : (cs : List (RowEdit K X)) (old new : Trees) → SetsParts s o cs old new → Keeps old new
  keeps_parts [] old new h = keeps_same old new h
  keeps_parts (c ∷ cs) old new h = keeps_then old h.0 new (keeps_parts cs old h.0 h.1) (keeps_row s same (o, c.key) c.row h.0 new h.2)

keeps_edit : (e : ChangeEdit) (old new : Trees) → SetsEdit e old new → Keeps old new
keeps_edit e old new h =
    let m5 = h.0 in
    let m4 = h.1.0 in
    let m3 = h.1.1.0 in
    let m2 = h.1.1.1.0 in
    let m1 = h.1.1.1.1.0 in
    keeps_then old m5 new (keeps_then old m4 m5 (keeps_then old m3 m4 (keeps_then old m2 m3 (keeps_then old m1 m2 (keeps_row headers refl e.change (Some e.header) old m1 h.1.1.1.1.1)
    (keeps_parts patches refl e.change e.patches.items m1 m2 h.1.1.1.1.2)) (keeps_parts votes refl e.change e.votes.items m2 m3 h.1.1.1.2)) (keeps_parts roles refl e.change e.roles.items m3 m4 h.1.1.2))
    (keeps_parts comments refl e.change e.comments.items m4 m5 h.1.2)) (keeps_parts attention_entries refl e.change e.attention.items m5 new h.2)

keeps_unless : (b : Bool) (e : ChangeEdit) (old new : Trees) → SetsUnless b e old new → Keeps old new
keeps_unless true e old new h = keeps_same old new h
keeps_unless false e old new h = keeps_edit e old new h

keeps_edits : (before es : List ChangeEdit) (old new : Trees) → SetsEdits before es old new → Keeps old new
keeps_edits before [] old new h = keeps_same old new h
keeps_edits before (e ∷ es) old new h = keeps_then old h.0 new (keeps_edits (before ++ e ∷ []) es old h.0 h.1) (keeps_unless (is_named before e.change) e h.0 new h.2)

-- ---- whether some row has no key

any_filtered : (p : Raw → Bool) (xs : List Raw) → list_any p xs ≡ list_any (λ r. true) (filter p xs)
any_filtered p [] = refl
any_filtered p (x ∷ xs) = elim (cases_Bool (p x)) [ inl is ↦ rw is refl | inr other ↦ rw other (any_filtered p xs) ]

any_same : (p : Raw → Bool) (xs ys : List Raw) → filter p xs ≡ filter p ys → list_any p xs ≡ list_any p ys
any_same p xs ys same = any_filtered p xs ∙ (ap (list_any (λ r. true)) same ∙ sym (any_filtered p ys))

pub all_same : (tables : List (ℕ × (Raw → Bool))) (old new : Trees) → AllByRecursion (λ t. filter (λ r. not (t.1 r)) (new t.0) ≡ filter (λ r. not (t.1 r)) (old t.0)) tables → has_unkeyed tables new ≡ has_unkeyed tables old
all_same [] old new all = refl
all_same (t ∷ tables) old new all = (λ i. any_same (λ r. not (t.1 r)) (new t.0) (old t.0) all.0 i || all_same tables old new all.1 i)

pub unkeyed_same : (old new : Trees) → Keeps old new → has_unkeyed keyed_tables new ≡ has_unkeyed keyed_tables old
unkeyed_same old new keeps = all_same keyed_tables old new
    (keeps.rows 0 refl, (keeps.rows 2 refl, (keeps.rows 26 refl, (keeps.rows 6 refl, (keeps.rows 28 refl, (keeps.rows 9 refl, (keeps.rows 11 refl, (keeps.rows 14 refl, (keeps.rows 16 refl, (keeps.rows 18 refl, (keeps.rows 20 refl, tt)))))))))))

keeps_given_up : (epoch : Option ℕ) (old new : Trees) → GivesUp epoch old new → Keeps old new
keeps_given_up None old new h = keeps_same old new h
keeps_given_up (Some least) old new h = keeps_then old h.0 new (keeps_removed least old h.0 h.1) (keeps_row epochs refl _ _ h.0 new h.2)

-- a commit leaves the rows that have no key
pub commit_keeps : (delta : Delta) (kept : Kept) (n : ℕ) (a b : Trees) → Then (Then (Then (SetsDelta delta) (SetsKept kept)) (GivesUp delta.least_epoch)) (SetsDesk (n + 1)) a b → Keeps a b
commit_keeps delta kept n a b h =
    let t3 = h.0 in
    let t2 = h.1.0 in
    let t1 = h.1.1.0 in
    let u = h.1.1.1.0 in
    let d3 = h.1.1.1.1.0 in
    let d2 = h.1.1.1.1.1.0 in
    let d1 = h.1.1.1.1.1.1.0 in
    keeps_then a t3 b (keeps_then a t2 t3 (keeps_then a t1 t2 (keeps_then a u t1 (keeps_then a d3 u (keeps_then a d2 d3 (keeps_then a d1 d2 (keeps_rows accounts refl delta.accounts.items a d1 h.1.1.1.1.1.1.1)
    (keeps_rows members refl delta.members.items d1 d2 h.1.1.1.1.1.1.2)) (keeps_put projects refl delta.file d2 d3 h.1.1.1.1.1.2)) (keeps_put bases refl delta.base d3 u h.1.1.1.1.2)) (keeps_edits [] delta.changes.items u t1 h.1.1.1.2))
    (keeps_row answers refl _ _ t1 t2 h.1.1.2)) (keeps_given_up delta.least_epoch t2 t3 h.1.2)) (keeps_row desk refl _ _ t3 b h.2)

-- so do the first rows of a desk
pub first_keeps : (a b : Trees) → SetsFirst a b → Keeps a b
first_keeps a b h =
    keeps_then a h.0 b (keeps_then a h.1.0 h.0 (keeps_then a h.1.1.0 h.1.0 (keeps_row accounts refl _ _ a h.1.1.0 h.1.1.1) (keeps_row members refl _ _ h.1.1.0 h.1.0 h.1.1.2)) (keeps_row epochs refl _ _ h.1.0 h.0 h.1.2))
    (keeps_row desk refl _ _ h.0 b h.2)

-- where no table has a row, none has no key
pub none_unkeyed : (a : Trees) → ((t : ℕ) → is_tree t ≡ true → a t ≡ []) → has_unkeyed keyed_tables a ≡ false
none_unkeyed a blank = none keyed_tables (blank 0 refl, (blank 2 refl, (blank 26 refl, (blank 6 refl, (blank 28 refl, (blank 9 refl, (blank 11 refl, (blank 14 refl, (blank 16 refl, (blank 18 refl, (blank 20 refl, tt)))))))))))
  where
    none : (tables : List (ℕ × (Raw → Bool))) → AllByRecursion (λ t. a t.0 ≡ []) tables → has_unkeyed tables a ≡ false
    none [] all = refl
    none (t ∷ tables) all = (λ i. list_any (λ r. not (t.1 r)) (all.0 i) || none tables all.1 i)
