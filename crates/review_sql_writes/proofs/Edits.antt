-- What edits of changes leave of their rows.
use Rattle.review_sql_tables.proofs.Changed.{parts_apart, parts_changed, parts_spare}
use Rattle.review_sql_tables.proofs.Common.{◌≡◌, ◌≢◌, ◌∙◌, ◌==◌, ◌||◌, ◌++◌, ℕ, ℤ, List, [], ◌∷◌, Bool, true, false, Option, Some, None, option_map, cond, refl, sym, ap, subst, inl, inr, eqb-true, eq-eqb, cases_Bool, both_ways, eqb-false, or_parts, list_any, nat_cmp, Trees, row_edit_of, after_row_edit, SparesOthers, is_tree, only, reads, rows_at}
use Rattle.review_core_rules.specs.Parts.{Part, TheHeader, PatchOf, VoteOf, RoleOf, CommentOf, AttentionOf, PartRow, AHeader, APatch, ARole, AComment, AnAttentionEntry}
use Rattle.review_core_rules.specs.{Seen.vote_cmp, declared.rows.VoteKey.VoteKey}
use Rattle.review_machine_rows.specs.Rows.{part_change}
use Rattle.review_sql_records.proofs.Common.{APart, edited, vote_row, ChangeEdit}
use Rattle.review_sql_records.specs.Laws.{numbers_exact}
use Rattle.review_sql_change_records.specs.Forms.{headers, patches, votes, roles, comments, attention_entries}
use Rattle.review_sql_change_records.specs.Laws.{votes_exact}
use Rattle.review_sql_lookups.specs.Tables.{part_in, told, vote_told}
use Rattle.review_sql_writes.specs.inner.Words.{SetsEdit, SetsEdits, SetsUnless, is_named}

-- ---- rows as they are told

told_part : {X : Type 0} (kind : X → PartRow) (c : Option (Option X)) (was : Option (Option X))
    → told (λ x. APart (kind x)) (after_row_edit (option_map (option_map Some) c) was) ≡ after_row_edit (option_map (option_map APart) (option_map (option_map kind) c)) (told (λ x. APart (kind x)) was)
told_part kind (Some None) was = refl
told_part kind _ was = refl

told_vote : (c : Option (Option ℤ)) (was : Option (Option ℤ)) → vote_told (after_row_edit (option_map (option_map Some) c) was) ≡ after_row_edit (option_map (option_map APart) (option_map vote_row c)) (vote_told was)
told_vote (Some None) was = refl
told_vote _ was = refl

-- the trees of changes
abbrev pub is_part_tree : ℕ → Bool
is_part_tree t = list_any (λ n. n == t) (9 ∷ 11 ∷ 14 ∷ 16 ∷ 18 ∷ 20 ∷ [])

-- the rows of changes are those of these trees
pub part_same : (old new : Trees) → new 9 ≡ old 9 → new 11 ≡ old 11 → new 14 ≡ old 14 → new 16 ≡ old 16 → new 18 ≡ old 18 → new 20 ≡ old 20 → (n : ℕ) (part : Part) → part_in new n part ≡ part_in old n part
part_same old new a b c d e f n TheHeader = ap (λ l. told (λ x. APart (AHeader x)) (only (reads headers) (rows_at (headers.at n) l))) a
part_same old new a b c d e f n (PatchOf k) = ap (λ l. told (λ x. APart (APatch x)) (only (reads patches) (rows_at (patches.at (n, k)) l))) b
part_same old new a b c d e f n (VoteOf k label u) = ap (λ l. vote_told (only (reads votes) (rows_at (votes.at (n, record { patch = k; label = label; account = u })) l))) c
part_same old new a b c d e f n (RoleOf u) = ap (λ l. told (λ x. APart (ARole x)) (only (reads roles) (rows_at (roles.at (n, u)) l))) d
part_same old new a b c d e f n (CommentOf k) = ap (λ l. told (λ x. APart (AComment x)) (only (reads comments) (rows_at (comments.at (n, k)) l))) e
part_same old new a b c d e f n (AttentionOf u) = ap (λ l. told (λ x. APart (AnAttentionEntry x)) (only (reads attention_entries) (rows_at (attention_entries.at (n, u)) l))) f

-- ---- one edit

module _ (e : ChangeEdit) (a b : Trees) (h : SetsEdit e a b) where
  abbrev m5 : Trees
  m5 = h.0

  abbrev m4 : Trees
  m4 = h.1.0

  abbrev m3 : Trees
  m3 = h.1.1.0

  abbrev m2 : Trees
  m2 = h.1.1.1.0

  abbrev m1 : Trees
  m1 = h.1.1.1.1.0

  attention_spare : SparesOthers 20 m5 b
  attention_spare = parts_spare attention_entries e.change e.attention.items m5 b h.2

  comments_spare : SparesOthers 18 m4 m5
  comments_spare = parts_spare comments e.change e.comments.items m4 m5 h.1.2

  roles_spare : SparesOthers 16 m3 m4
  roles_spare = parts_spare roles e.change e.roles.items m3 m4 h.1.1.2

  votes_spare : SparesOthers 14 m2 m3
  votes_spare = parts_spare votes e.change e.votes.items m2 m3 h.1.1.1.2

  patches_spare : SparesOthers 11 m1 m2
  patches_spare = parts_spare patches e.change e.patches.items m1 m2 h.1.1.1.1.2

  headers_spare : SparesOthers 9 a m1
  headers_spare = h.1.1.1.1.1.others

  apart : (m n : ℕ) → (m == n) ≡ false → n ≢ m
  apart m n other same = eqb-false m n other (sym same)

  pub edit_spares : (t : ℕ) → is_tree t ≡ true → is_part_tree t ≡ false → b t ≡ a t
  edit_spares t is other =
      let p9 = or_parts _ _ other in
      let p11 = or_parts _ _ p9.1 in
      let p14 = or_parts _ _ p11.1 in
      let p16 = or_parts _ _ p14.1 in
      let p18 = or_parts _ _ p16.1 in
      let p20 = or_parts _ _ p18.1 in
      attention_spare t is (apart 20 t p20.0) ∙ (comments_spare t is (apart 18 t p18.0) ∙ (roles_spare t is (apart 16 t p16.0) ∙ (votes_spare t is (apart 14 t p14.0) ∙ (patches_spare t is (apart 11 t p11.0) ∙ headers_spare t is (apart 9 t p9.0)))))

  at_9 : b 9 ≡ m1 9
  at_9 = attention_spare 9 refl (apart 20 9 refl) ∙ (comments_spare 9 refl (apart 18 9 refl) ∙ (roles_spare 9 refl (apart 16 9 refl) ∙ (votes_spare 9 refl (apart 14 9 refl) ∙ patches_spare 9 refl (apart 11 9 refl))))

  at_11 : b 11 ≡ m2 11
  at_11 = attention_spare 11 refl (apart 20 11 refl) ∙ (comments_spare 11 refl (apart 18 11 refl) ∙ (roles_spare 11 refl (apart 16 11 refl) ∙ votes_spare 11 refl (apart 14 11 refl)))

  was_11 : m1 11 ≡ a 11
  was_11 = headers_spare 11 refl (apart 9 11 refl)

  at_14 : b 14 ≡ m3 14
  at_14 = attention_spare 14 refl (apart 20 14 refl) ∙ (comments_spare 14 refl (apart 18 14 refl) ∙ roles_spare 14 refl (apart 16 14 refl))

  was_14 : m2 14 ≡ a 14
  was_14 = patches_spare 14 refl (apart 11 14 refl) ∙ headers_spare 14 refl (apart 9 14 refl)

  at_16 : b 16 ≡ m4 16
  at_16 = attention_spare 16 refl (apart 20 16 refl) ∙ comments_spare 16 refl (apart 18 16 refl)

  was_16 : m3 16 ≡ a 16
  was_16 = votes_spare 16 refl (apart 14 16 refl) ∙ (patches_spare 16 refl (apart 11 16 refl) ∙ headers_spare 16 refl (apart 9 16 refl))

  at_18 : b 18 ≡ m5 18
  at_18 = attention_spare 18 refl (apart 20 18 refl)

  was_18 : m4 18 ≡ a 18
  was_18 = roles_spare 18 refl (apart 16 18 refl) ∙ (votes_spare 18 refl (apart 14 18 refl) ∙ (patches_spare 18 refl (apart 11 18 refl) ∙ headers_spare 18 refl (apart 9 18 refl)))

  was_20 : m5 20 ≡ a 20
  was_20 = comments_spare 20 refl (apart 18 20 refl) ∙ (roles_spare 20 refl (apart 16 20 refl) ∙ (votes_spare 20 refl (apart 14 20 refl) ∙ (patches_spare 20 refl (apart 11 20 refl) ∙ headers_spare 20 refl (apart 9 20 refl))))

  -- the rows of the change
  pub edit_here : (part : Part) → part_in b e.change part ≡ after_row_edit (option_map (option_map APart) (part_change e part)) (part_in a e.change part)
  edit_here TheHeader = ap (λ l. told (λ x. APart (AHeader x)) (only (reads headers) (rows_at (headers.at e.change) l))) at_9 ∙ ap (told (λ x. APart (AHeader x))) h.1.1.1.1.1.here
  edit_here (PatchOf k) =
      ap (λ l. told (λ x. APart (APatch x)) (only (reads patches) (rows_at (patches.at (e.change, k)) l))) at_11
      ∙ (ap (told (λ x. APart (APatch x))) (parts_changed patches e.change nat_cmp numbers_exact e.patches.items m1 m2 h.1.1.1.1.2 k ∙ ap (λ l. after_row_edit (option_map (option_map Some) (row_edit_of nat_cmp e.patches.items k)) (only (reads patches) (rows_at (patches.at (e.change, k)) l))) was_11)
      ∙ told_part APatch (row_edit_of nat_cmp e.patches.items k) _)
  edit_here (VoteOf k label u) =
      let key : VoteKey = record { patch = k; label = label; account = u } in
      ap (λ l. vote_told (only (reads votes) (rows_at (votes.at (e.change, key)) l))) at_14
      ∙ (ap vote_told (parts_changed votes e.change vote_cmp votes_exact e.votes.items m2 m3 h.1.1.1.2 key ∙ ap (λ l. after_row_edit (option_map (option_map Some) (row_edit_of vote_cmp e.votes.items key)) (only (reads votes) (rows_at (votes.at (e.change, key)) l))) was_14)
      ∙ told_vote (row_edit_of vote_cmp e.votes.items key) _)
  edit_here (RoleOf u) =
      ap (λ l. told (λ x. APart (ARole x)) (only (reads roles) (rows_at (roles.at (e.change, u)) l))) at_16
      ∙ (ap (told (λ x. APart (ARole x))) (parts_changed roles e.change nat_cmp numbers_exact e.roles.items m3 m4 h.1.1.2 u ∙ ap (λ l. after_row_edit (option_map (option_map Some) (row_edit_of nat_cmp e.roles.items u)) (only (reads roles) (rows_at (roles.at (e.change, u)) l))) was_16)
      ∙ told_part ARole (row_edit_of nat_cmp e.roles.items u) _)
  edit_here (CommentOf k) =
      ap (λ l. told (λ x. APart (AComment x)) (only (reads comments) (rows_at (comments.at (e.change, k)) l))) at_18
      ∙ (ap (told (λ x. APart (AComment x))) (parts_changed comments e.change nat_cmp numbers_exact e.comments.items m4 m5 h.1.2 k ∙ ap (λ l. after_row_edit (option_map (option_map Some) (row_edit_of nat_cmp e.comments.items k)) (only (reads comments) (rows_at (comments.at (e.change, k)) l))) was_18)
      ∙ told_part AComment (row_edit_of nat_cmp e.comments.items k) _)
  edit_here (AttentionOf u) =
      ap (told (λ x. APart (AnAttentionEntry x))) (parts_changed attention_entries e.change nat_cmp numbers_exact e.attention.items m5 b h.2 u ∙ ap (λ l. after_row_edit (option_map (option_map Some) (row_edit_of nat_cmp e.attention.items u)) (only (reads attention_entries) (rows_at (attention_entries.at (e.change, u)) l))) was_20)
      ∙ told_part AnAttentionEntry (row_edit_of nat_cmp e.attention.items u) _

  -- the rows of other changes
  pub edit_there : (n : ℕ) → n ≢ e.change → (part : Part) → part_in b n part ≡ part_in a n part
  edit_there n other TheHeader = ap (λ l. told (λ x. APart (AHeader x)) (only (reads headers) (rows_at (headers.at n) l))) at_9 ∙ ap (told (λ x. APart (AHeader x))) (h.1.1.1.1.1.there n other)
  edit_there n other (PatchOf k) =
      ap (λ l. told (λ x. APart (APatch x)) (only (reads patches) (rows_at (patches.at (n, k)) l))) at_11
      ∙ ap (told (λ x. APart (APatch x))) (parts_apart patches e.change e.patches.items m1 m2 h.1.1.1.1.2 n k other ∙ ap (λ l. only (reads patches) (rows_at (patches.at (n, k)) l)) was_11)
  edit_there n other (VoteOf k label u) =
      let key : VoteKey = record { patch = k; label = label; account = u } in
      ap (λ l. vote_told (only (reads votes) (rows_at (votes.at (n, key)) l))) at_14
      ∙ ap vote_told (parts_apart votes e.change e.votes.items m2 m3 h.1.1.1.2 n key other ∙ ap (λ l. only (reads votes) (rows_at (votes.at (n, key)) l)) was_14)
  edit_there n other (RoleOf u) =
      ap (λ l. told (λ x. APart (ARole x)) (only (reads roles) (rows_at (roles.at (n, u)) l))) at_16
      ∙ ap (told (λ x. APart (ARole x))) (parts_apart roles e.change e.roles.items m3 m4 h.1.1.2 n u other ∙ ap (λ l. only (reads roles) (rows_at (roles.at (n, u)) l)) was_16)
  edit_there n other (CommentOf k) =
      ap (λ l. told (λ x. APart (AComment x)) (only (reads comments) (rows_at (comments.at (n, k)) l))) at_18
      ∙ ap (told (λ x. APart (AComment x))) (parts_apart comments e.change e.comments.items m4 m5 h.1.2 n k other ∙ ap (λ l. only (reads comments) (rows_at (comments.at (n, k)) l)) was_18)
  edit_there n other (AttentionOf u) =
      ap (told (λ x. APart (AnAttentionEntry x))) (parts_apart attention_entries e.change e.attention.items m5 b h.2 n u other ∙ ap (λ l. only (reads attention_entries) (rows_at (attention_entries.at (n, u)) l)) was_20)

-- ---- all edits

named_more : (before : List ChangeEdit) (e : ChangeEdit) (n : ℕ) → is_named (before ++ e ∷ []) n ≡ (is_named before n || (e.change == n))
named_more [] e n = or_none (e.change == n)
  where
    or_none : (b : Bool) → (b || false) ≡ b
    or_none true = refl
    or_none false = refl
named_more (d ∷ before) e n = elim (cases_Bool (d.change == n)) [ inl is ↦ rw is refl | inr other ↦ rw other (named_more before e n) ]

pub edits_spare : (before es : List ChangeEdit) (old new : Trees) → SetsEdits before es old new → (t : ℕ) → is_tree t ≡ true → is_part_tree t ≡ false → new t ≡ old t
edits_spare before [] old new h t is other = ap (λ (d : Trees). d t) h
edits_spare before (e ∷ es) old new h t is other = unless (is_named before e.change) h.2 ∙ edits_spare (before ++ e ∷ []) es old h.0 h.1 t is other
  where
    unless : (b : Bool) → SetsUnless b e h.0 new → new t ≡ h.0 t
    unless true same = ap (λ (d : Trees). d t) same
    unless false set = edit_spares e h.0 new set t is other

both_true : {X : Type 0} (b : Bool) (o : Option X) → cond (b || true) None o ≡ None
both_true true o = refl
both_true false o = refl

-- what edits that stand after others make of a row of a change
abbrev left_or : List ChangeEdit → List ChangeEdit → ℕ → Part → Option (Option PartRow)
left_or before es n part = cond (is_named before n) None (edited es n part)

pub parts_edited : (before es : List ChangeEdit) (old new : Trees) → SetsEdits before es old new → (n : ℕ) (part : Part) → part_in new n part ≡ after_row_edit (option_map (option_map APart) (left_or before es n part)) (part_in old n part)
parts_edited before [] old new h n part = ap (λ (d : Trees). part_in d n part) h ∙ none (is_named before n)
  where
    none : (b : Bool) → part_in old n part ≡ after_row_edit (option_map (option_map APart) (cond b None None)) (part_in old n part)
    none true = refl
    none false = refl
parts_edited before (e ∷ es) old new h n part = step (is_named before e.change) refl h.2 (parts_edited (before ++ e ∷ []) es old h.0 h.1 n part)
  where
    AtMid : Type 0
    AtMid = part_in h.0 n part ≡ after_row_edit (option_map (option_map APart) (left_or (before ++ e ∷ []) es n part)) (part_in old n part)

    -- a change that no edit before is of, and not this one
    other_left : (e.change == n) ≡ false → left_or (before ++ e ∷ []) es n part ≡ left_or before (e ∷ es) n part
    other_left other = rw (named_more before e n, other) (either (is_named before n))
      where
        either : (b : Bool) → cond (b || false) None (edited es n part) ≡ cond b None (edited es n part)
        either true = refl
        either false = refl

    seen_left : is_named before n ≡ true → left_or (before ++ e ∷ []) es n part ≡ left_or before (e ∷ es) n part
    seen_left seen = rw (named_more before e n, seen) refl

    step : (b : Bool) → is_named before e.change ≡ b → SetsUnless b e h.0 new → AtMid → part_in new n part ≡ after_row_edit (option_map (option_map APart) (left_or before (e ∷ es) n part)) (part_in old n part)
    step true seen same mid =
        ap (λ (d : Trees). part_in d n part) same ∙ (mid ∙ ap (λ c. after_row_edit (option_map (option_map APart) c) (part_in old n part)) (elim (cases_Bool (e.change == n)) [
          | inl is ↦ seen_left (subst (λ m. is_named before m ≡ true) (eqb-true e.change n is) seen)
          | inr other ↦ other_left other
        ]))
    step false unseen set mid = elim (cases_Bool (e.change == n)) [
      | inl is ↦
          let here : e.change ≡ n = eqb-true e.change n is in
          let fresh : is_named before n ≡ false = subst (λ m. is_named before m ≡ false) here unseen in
          let none : left_or (before ++ e ∷ []) es n part ≡ None = rw (named_more before e n, is) (both_true (is_named before n) (edited es n part)) in
          let mine : left_or before (e ∷ es) n part ≡ part_change e part = rw (fresh, is) refl in
          let was : part_in h.0 n part ≡ part_in old n part = mid ∙ ap (λ c. after_row_edit (option_map (option_map APart) c) (part_in old n part)) none in
          subst (λ m. part_in new m part ≡ after_row_edit (option_map (option_map APart) (part_change e part)) (part_in h.0 m part)) here (edit_here e h.0 new set part)
          ∙ (ap (λ r. after_row_edit (option_map (option_map APart) (part_change e part)) r) was ∙ ap (λ c. after_row_edit (option_map (option_map APart) c) (part_in old n part)) (sym mine))
      | inr other ↦ edit_there e h.0 new set n (λ same. both_ways (e.change == n) other (eq-eqb e.change n (sym same))) part ∙ (mid ∙ ap (λ c. after_row_edit (option_map (option_map APart) c) (part_in old n part)) (other_left other))
    ]
