-- A desk before its first request.
use Rattle.review_names.specs.Names.{admin_name, administrators}
use Rattle.review_sql_tables.proofs.Common.{◌≡◌, ◌≢◌, ◌∙◌, ◌==◌, ℕ, List, [], ◌∷◌, Some, None, option_map, cond, true, refl, sym, ap, subst, arith, inl, inr, length, eqb-true, Bool, Option, false, cases_Bool, both_ways, eqb-false, nat_lt, bytes_eq, Database, Trees, Text, schema_0, desk_schema, is_tree, Grows, IsBlank, OnDesk, rows_at, row_at, only, reads, SetsRow}
use Rattle.review_sql_tables.proofs.Made.{ready_blank, empty_at}
use Rattle.review_core_rules.specs.Parts.{Part, TheHeader, PatchOf, VoteOf, RoleOf, CommentOf, AttentionOf, AHeader, APatch, ARole, AComment, AnAttentionEntry}
use Rattle.review_machine_rows.specs.{Rows.MemberKey as OfMember, Rows.Stored, declared.rows.MemberKey.MemberKey}
use Rattle.review_sql_records.proofs.Common.{is_listed, Next, Reading, Key, AccountKey, FileKey, BaseKey, PartKey, OddKey, AccountRow, MemberRow, FileRow, BaseRow, APart, OddRow, Count, Projects, BasesOf, ClosedEpochs, IsView, fact, counted, projects, answers, request_key}
use Rattle.review_sql_records.specs.Forms.{accounts, members, bases, epochs}
use Rattle.review_sql_change_records.specs.Forms.{headers, patches, votes, roles, comments, attention_entries}
use Rattle.{review_sql_change_records.specs.Laws.same_bytes, review_sql_lookups.proofs.Telling.own_bytes}
use Rattle.review_sql_lookups.specs.Tables.{part_in, vote_told, told, row_in, count_in, stored_as, number_of, tables_at, least_in, version_in}
use Rattle.review_sql_writes.proofs.Unkeyed.{first_keeps, none_unkeyed, unkeyed_same}
use Rattle.review_sql_writes.specs.{Commits.MakesDesk, Commits.IsDesk, inner.Words.SetsFirst}

module _ (a b : Trees) (blank : (t : ℕ) → is_tree t ≡ true → a t ≡ []) (h : SetsFirst a b) where
  abbrev m1 : Trees
  m1 = h.1.1.0

  abbrev m2 : Trees
  m2 = h.1.0

  acc : SetsRow accounts 1 (Some admin_name) a m1
  acc = h.1.1.1

  mem : SetsRow members (record { group = administrators; account = 1 }) (Some tt) m1 m2
  mem = h.1.1.2

  -- what is put after them spares the other tables
  after : (t : ℕ) → is_tree t ≡ true → t ≢ 25 → t ≢ 31 → b t ≡ m2 t
  after t is p q = h.2.others t is p ∙ h.1.2.others t is q

  untouched : (t : ℕ) → is_tree t ≡ true → t ≢ 0 → t ≢ 2 → t ≢ 25 → t ≢ 31 → b t ≡ []
  untouched t is p q r s = after t is r s ∙ (mem.others t is q ∙ (acc.others t is p ∙ blank t is))

  account_row : (n : ℕ) → told AccountRow (row_at accounts m1 n) ≡ option_map AccountRow (cond (n == 1) (Some admin_name) None)
  account_row n = elim (cases_Bool (n == 1)) [
    | inl is ↦ rw is (subst (λ k. told AccountRow (row_at accounts m1 k) ≡ Some (AccountRow admin_name)) (sym (eqb-true n 1 is)) (ap (told AccountRow) acc.here))
    | inr other ↦ rw other (ap (told AccountRow) (acc.there n (eqb-false n 1 other)) ∙ ap (λ l. told AccountRow (only (reads accounts) (rows_at (accounts.at n) l))) (blank 0 refl))
  ]

  no_member : (k : MemberKey) → k ≢ record { group = administrators; account = 1 } → told (λ u. MemberRow) (row_at members m2 k) ≡ None
  no_member k other = ap (told (λ u. MemberRow)) (mem.there k other) ∙ ap (λ l. told (λ u. MemberRow) (only (reads members) (rows_at (members.at k) l))) (acc.others 2 refl (λ e. omega (arith, e)) ∙ blank 2 refl)

  member_row : (group : List ℕ) (n : ℕ) → told (λ u. MemberRow) (row_at members m2 (record { group = group; account = n })) ≡ cond (is_listed [] group n) (Some MemberRow) None
  member_row group n = elim (cases_Bool (bytes_eq administrators group)) [
    | inl is ↦ elim (cases_Bool (1 == n)) [
      | inl one ↦ rw (is, one) (subst (λ k. told (λ u. MemberRow) (row_at members m2 k) ≡ Some MemberRow) (λ i. record { group = same_bytes administrators group is i; account = eqb-true 1 n one i }) (ap (told (λ u. MemberRow)) mem.here))
      | inr other ↦ rw (is, other) (no_member (record { group = group; account = n }) (λ same. eqb-false 1 n other (sym (ap (λ (k : MemberKey). k.account) same))))
    ]
    | inr other ↦ rw other (no_member (record { group = group; account = n }) (λ same. both_ways _ other (own_bytes administrators group (sym (ap (λ (k : MemberKey). k.group) same)))))
  ]

  no_part : (n : ℕ) (part : Part) → part_in b n part ≡ None
  no_part n TheHeader = ap (λ l. told (λ x. APart (AHeader x)) (only (reads headers) (rows_at (headers.at n) l))) (untouched 9 refl (λ e. omega (arith, e)) (λ e. omega (arith, e)) (λ e. omega (arith, e)) (λ e. omega (arith, e)))
  no_part n (PatchOf k) = ap (λ l. told (λ x. APart (APatch x)) (only (reads patches) (rows_at (patches.at (n, k)) l))) (untouched 11 refl (λ e. omega (arith, e)) (λ e. omega (arith, e)) (λ e. omega (arith, e)) (λ e. omega (arith, e)))
  no_part n (VoteOf k label u) = ap (λ l. vote_told (only (reads votes) (rows_at (votes.at (n, record { patch = k; label = label; account = u })) l))) (untouched 14 refl (λ e. omega (arith, e)) (λ e. omega (arith, e)) (λ e. omega (arith, e)) (λ e. omega (arith, e)))
  no_part n (RoleOf u) = ap (λ l. told (λ x. APart (ARole x)) (only (reads roles) (rows_at (roles.at (n, u)) l))) (untouched 16 refl (λ e. omega (arith, e)) (λ e. omega (arith, e)) (λ e. omega (arith, e)) (λ e. omega (arith, e)))
  no_part n (CommentOf k) = ap (λ l. told (λ x. APart (AComment x)) (only (reads comments) (rows_at (comments.at (n, k)) l))) (untouched 18 refl (λ e. omega (arith, e)) (λ e. omega (arith, e)) (λ e. omega (arith, e)) (λ e. omega (arith, e)))
  no_part n (AttentionOf u) = ap (λ l. told (λ x. APart (AnAttentionEntry x)) (only (reads attention_entries) (rows_at (attention_entries.at (n, u)) l))) (untouched 20 refl (λ e. omega (arith, e)) (λ e. omega (arith, e)) (λ e. omega (arith, e)) (λ e. omega (arith, e)))

  rows : (reading : Reading) (k : Key) → row_in b k ≡ fact reading [] k
  rows reading (AccountKey n) = ap (λ l. told AccountRow (only (reads accounts) (rows_at (accounts.at n) l))) (after 0 refl (λ e. omega (arith, e)) (λ e. omega (arith, e)) ∙ mem.others 0 refl (λ e. omega (arith, e))) ∙ account_row n
  rows reading (OfMember group n) = ap (λ l. told (λ u. MemberRow) (only (reads members) (rows_at (members.at (record { group = group; account = n })) l))) (after 2 refl (λ e. omega (arith, e)) (λ e. omega (arith, e))) ∙ member_row group n
  rows reading (FileKey project) = ap (λ l. told FileRow (only (reads projects) (rows_at (projects.at project) l))) (untouched 26 refl (λ e. omega (arith, e)) (λ e. omega (arith, e)) (λ e. omega (arith, e)) (λ e. omega (arith, e)))
  rows reading (BaseKey project branch place) = ap (λ l. told BaseRow (only (reads bases) (rows_at (bases.at (record { project = project; branch = branch; place = place })) l))) (untouched 6 refl (λ e. omega (arith, e)) (λ e. omega (arith, e)) (λ e. omega (arith, e)) (λ e. omega (arith, e)))
  rows reading (PartKey n part) = no_part n part
  rows reading (OddKey o) = ap (λ odd. cond odd (Some OddRow) None) (unkeyed_same a b (first_keeps a b h) ∙ none_unkeyed a blank)

  counts : (c : Count) → count_in b c ≡ counted [] c
  counts ClosedEpochs = ap least_in (ap (λ l. only (reads epochs) (rows_at (epochs.at tt) l)) (h.2.others 31 refl (λ e. omega (arith, e))) ∙ h.1.2.here)
  counts Projects = ap length (untouched 26 refl (λ e. omega (arith, e)) (λ e. omega (arith, e)) (λ e. omega (arith, e)) (λ e. omega (arith, e)))
  counts (BasesOf project) = ap (λ l. length (rows_at ((1, Text project) ∷ []) l)) (untouched 6 refl (λ e. omega (arith, e)) (λ e. omega (arith, e)) (λ e. omega (arith, e)) (λ e. omega (arith, e)))

  pub first_desk : IsDesk (record { requests = 0; least = 0 }) b
  first_desk = record { desk_is = h.2.here; least_is = ap (λ l. only (reads epochs) (rows_at (epochs.at tt) l)) (h.2.others 31 refl (λ e. omega (arith, e))) ∙ h.1.2.here }

  neither : (closed : Bool) → cond {A = Option Stored} closed None None ≡ None
  neither true = refl
  neither false = refl

  pub first_view : IsView [] (tables_at b)
  first_view reading right = record {
    row_is = rows reading;
    count_is = counts;
    answer_is = λ i. ap (λ l. stored_as i (only (reads answers) (rows_at (answers.at (request_key i)) l))) (untouched 28 refl (λ e. omega (arith, e)) (λ e. omega (arith, e)) (λ e. omega (arith, e)) (λ e. omega (arith, e))) ∙ sym (neither (nat_lt i.epoch 0));
    version = (λ k. version_in (first_desk.least_is k) (h.2.here k));
    requests = ap (number_of (λ d. d.requests)) h.2.here;
  }

pub makes_desk : (old new : Database) → Next (Grows schema_0 desk_schema) (OnDesk SetsFirst) old new → MakesDesk old new
makes_desk old new h = record {
  ready = λ blank. h.2.ready (ready_blank h.0 (h.1 blank).0 (h.1 blank).1);
  view = λ blank. first_view h.0.trees new.trees (none blank) (h.2.changes (ready_blank h.0 (h.1 blank).0 (h.1 blank).1));
  desk = λ blank. first_desk h.0.trees new.trees (none blank) (h.2.changes (ready_blank h.0 (h.1 blank).0 (h.1 blank).1));
}
  where
    none : IsBlank schema_0 old → (t : ℕ) → is_tree t ≡ true → h.0.trees t ≡ []
    none blank t is = empty_at h.0.trees desk_schema.tables (h.1 blank).0.empty t is
