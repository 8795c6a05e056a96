-- What the statements of a commit do together.
use Rattle.std.proofs.lemmas.{Cmp.nat_cmp_total, Map.Lookups.exact_unsigned}
use Rattle.review_sql_tables.proofs.Changed.{rows_changed, rows_spare}
use Rattle.review_sql_tables.proofs.Common.{ap, is_eq, ◌≡◌, ◌≢◌, ◌∙◌, ◌+◌, ◌≤◌, ℕ, List, [], ◌∷◌, Option, Some, None, option_map, cond, Ordering, true, false, Bool, is_some, not, pos, refl, sym, subst, arith, inl, inr, length, filter, eqb-true, eq-eqb, ◌&&◌, cases_Bool, and_parts, and_from, both_ways, tied_itself, nat_list_cmp_total, exact_bytes, is_at, slice_cmp, nat_cmp, nat_lt, unwrap_or, bytes_eq, Database, Trees, Raw, column, Int, Text, row_edit_of, after_row_edit, SparesOthers, has_key, is_number_below, is_natural, is_text, is_value, is_tree, IsExact, OnDesk, row_at, rows_at, only, reads, Search, Then}
use Rattle.review_sql_tables.proofs.{Keys.int_is, Keys.text_is, Meaning.and_true}
use Rattle.review_machine_rows.proofs.Puts.{exact_place, place_total}
use Rattle.review_machine_rows.specs.Rows.{is_below, Row, member_cmp, member_change, account_change, after_put, place_cmp, after, count_after}
use Rattle.review_machine_rows.specs.declared.rows.MemberKey.{MemberKey as Member}
use Rattle.review_sql_records.proofs.Common.{Identity, is_same, equal_is, same_text, Key, AccountKey, MemberKey, FileKey, BaseKey, PartKey, OddKey, AccountRow, MemberRow, FileRow, BaseRow, APart, OddRow, edited, Count, Projects, BasesOf, ClosedEpochs, Answered, count_put, kept_row, IsCommitted, Delta, Kept, PlaceKey, Put, StoredFile, projects, answers, is_of_lower, request_key}
use Rattle.review_sql_records.specs.{Forms.accounts, Forms.members, Forms.bases, Forms.epochs, Laws.numbers_exact}
use Rattle.review_sql_change_records.specs.Laws.{both_equal, then_equal, same_bytes}
use Rattle.review_sql_lookups.proofs.Telling.{own_bytes}
use Rattle.review_sql_lookups.specs.Tables.{told, row_in, count_in, answer_in, least_in, stored_as, number_of, tables_at, version_in}
use Rattle.review_sql_writes.proofs.Edits.{edits_spare, is_part_tree, part_same, parts_edited}
use Rattle.review_sql_writes.proofs.{Rest.keeps_rest, Unkeyed.commit_keeps, Unkeyed.unkeyed_same}
use Rattle.review_sql_writes.specs.Commits.{Commits, AreSingle, IsDesk, with_request}
use Rattle.review_sql_writes.specs.declared.numbers.Numbers.{Numbers}
use Rattle.review_sql_writes.specs.inner.Words.{GivesUp, SetsDelta, SetsKept, SetsDesk, SetsPut}

-- ---- keys

members_exact : IsExact member_cmp
members_exact = record {
  same = λ a b is.
      let parts = both_equal (slice_cmp nat_cmp a.group b.group) (nat_cmp a.account b.account) is in
      let group : a.group ≡ b.group = exact_bytes a.group b.group (equal_is _ parts.0) in
      let account : a.account ≡ b.account = exact_unsigned a.account b.account (equal_is _ parts.1) in
      (λ i. record { group = group i; account = account i });
  itself = λ a. ap is_eq (then_equal (slice_cmp nat_cmp a.group a.group) (nat_cmp a.account a.account) (tied_itself nat_list_cmp_total a.group) (tied_itself nat_cmp_total a.account));
}

names_exact : IsExact (slice_cmp nat_cmp)
names_exact = record { same = λ a b is. exact_bytes a b (equal_is _ is); itself = λ a. ap is_eq (tied_itself nat_list_cmp_total a) }

places_exact : IsExact place_cmp
places_exact = record { same = λ a b is. exact_place a b (equal_is _ is); itself = λ a. ap is_eq (tied_itself place_total a) }

-- ---- rows

told_account : (c : Option (Option (List ℕ))) (was : Option (Option (List ℕ))) → told AccountRow (after_row_edit (option_map (option_map Some) c) was) ≡ after_row_edit (account_change c) (told AccountRow was)
told_account (Some None) was = refl
told_account _ was = refl

told_member : (c : Option (Option (Unit {0}))) (was : Option (Option (Unit {0}))) → told (λ u. MemberRow) (after_row_edit (option_map (option_map Some) c) was) ≡ after_row_edit (member_change c) (told (λ u. MemberRow) was)
told_member (Some None) was = refl
told_member _ was = refl

module _ {A X : Type 0} (s : Search A X) where
  module _ (cmp : A → A → Ordering) (exact : IsExact cmp) (kind : X → Row) where
    row_put : (o : Option (Put A X)) (old new : Trees) → SetsPut s o old new → (a : A) → told kind (row_at s new a) ≡ after_put cmp kind o a (told kind (row_at s old a))
    row_put None old new h a = ap (λ (t : Trees). told kind (row_at s t a)) h
    row_put (Some put) old new h a = elim (cases_Bool (is_at (cmp put.key) a)) [
      | inl is ↦ rw is (subst (λ k. told kind (row_at s new k) ≡ Some (kind put.row)) (exact.same put.key a is) (ap (told kind) h.here))
      | inr other ↦ rw other (ap (told kind) (h.there a (λ same. both_ways _ other (subst (λ k. is_at (cmp put.key) k ≡ true) (sym same) (exact.itself put.key)))))
    ]

  put_spares : (o : Option (Put A X)) (old new : Trees) → SetsPut s o old new → SparesOthers s.tree old new
  put_spares None old new h = λ t is other. ap (λ (d : Trees). d t) h
  put_spares (Some put) old new h = h.others

-- ---- counts

all_pass : (rows : List Raw) → filter (λ r. true) rows ≡ rows
all_pass [] = refl
all_pass (r ∷ rows) = ap (λ l. r ∷ l) (all_pass rows)

-- one more where the key had no row, and as many where it had one
counted_as : {X : Type 0} (kind : X → Row) (read : Raw → Option X) (rows : List Raw) (n m : ℕ) → length rows ≤ 1 → m + length rows ≡ n + 1 → m ≡ cond (is_some (told kind (only read rows))) n (n + 1)
counted_as kind read [] n m single more = omega (arith, more)
counted_as {X} kind read (r ∷ []) n m single more = go (read r) (omega (arith, more))
  where
    go : (o : Option X) → m ≡ n → m ≡ cond (is_some (told kind (Some o))) n (n + 1)
    go None same = same
    go (Some x) same = same
counted_as kind read (r ∷ s ∷ rows) n m single more = absurd (omega (arith, single))

file_count : (o : Option (Put (List ℕ) StoredFile)) (old new : Trees) → SetsPut projects o old new → ((p : List ℕ) → length (rows_at (projects.at p) (old 26)) ≤ 1)
    → length (new 26) ≡ count_put (λ p. true) o (λ p. told FileRow (row_at projects old p)) (length (old 26))
file_count None old new h single = ap (λ (t : Trees). length (t 26)) h
file_count (Some put) old new h single =
    counted_as FileRow (reads projects) (rows_at (projects.at put.key) (old 26)) (length (old 26)) (length (new 26)) (single put.key)
    (let e = h.counted (λ r. true) (λ r has. refl) in rw (all_pass (new 26), all_pass (old 26)) at e)

base_count : (o : Option (Put PlaceKey (List ℕ))) (old new : Trees) → SetsPut bases o old new → ((k : PlaceKey) → length (rows_at (bases.at k) (old 6)) ≤ 1) → (project : List ℕ)
    → length (rows_at ((1, Text project) ∷ []) (new 6)) ≡ count_put (λ k. bytes_eq k.project project) o (λ k. told BaseRow (row_at bases old k)) (length (rows_at ((1, Text project) ∷ []) (old 6)))
base_count None old new h single project = ap (λ (t : Trees). length (rows_at ((1, Text project) ∷ []) (t 6))) h
base_count (Some b) old new h single project = elim (cases_Bool (bytes_eq b.key.project project)) [
  | inl is ↦ rw is (counted_as BaseRow (reads bases) (rows_at (bases.at b.key) (old 6)) (length (rows_at ((1, Text project) ∷ []) (old 6))) (length (rows_at ((1, Text project) ∷ []) (new 6))) (single b.key)
      (h.counted (has_key ((1, Text project) ∷ [])) (λ r has. subst (λ p. has_key ((1, Text p) ∷ []) r ≡ true) (same_bytes b.key.project project is) (and_from _ _ (and_parts _ _ has).0 refl))))
  | inr other ↦ rw other (ap length (h.apart (has_key ((1, Text project) ∷ [])) (λ r has. elim (cases_Bool (has_key ((1, Text project) ∷ []) r)) [
    | inl too ↦ absurd (both_ways _ other (own_bytes b.key.project project (same_text (column r 1) b.key.project project (and_parts _ _ has).0 (and_parts _ _ too).0)))
    | inr apart ↦ apart
  ])))
]

-- ---- stored requests

answer_row : (kept : Kept) (old new : Trees) → SetsKept kept old new → (i : Identity) → answer_in new i ≡ cond (is_same (kept_row kept).identity i) (Some (Answered (kept_row kept))) (answer_in old i)
answer_row kept old new h i = elim (cases_Bool (is_same (kept_row kept).identity i)) [
  | inl same ↦
      let parts = and_parts _ _ same in
      let rest = and_parts _ _ parts.1 in
      let one : (kept_row kept).identity ≡ i = (λ k. record { caller = eqb-true kept.caller i.caller parts.0 k; epoch = eqb-true kept.epoch i.epoch rest.0 k; id = same_bytes kept.id i.id rest.1 k }) in
      rw same (subst (λ j. answer_in new j ≡ Some (Answered (kept_row kept))) one (ap (stored_as (kept_row kept).identity) h.here))
  | inr other ↦ rw other (ap (stored_as i) (h.there (request_key i)
      (λ same. both_ways (is_same (kept_row kept).identity i) other (and_from _ _ (eq-eqb kept.caller i.caller (sym (ap (λ k. k.caller) same))) (and_from _ _ (eq-eqb kept.epoch i.epoch (sym (ap (λ k. k.epoch) same))) (own_bytes kept.id i.id (sym (ap (λ k. k.id) same))))))))
]

-- ---- kept answers of lower epochs

-- rows that pass one test, of those that pass another, which tells nothing more of them
pub filter_twice : (p q : Raw → Bool) (b : Bool) (rows : List Raw) → ((r : Raw) → q r ≡ true → p r ≡ b) → filter q (filter p rows) ≡ cond b (filter q rows) []
filter_twice p q true [] each = refl
filter_twice p q false [] each = refl
filter_twice p q b (r ∷ rows) each = elim (cases_Bool (q r)) [
  | inl asked ↦ one b asked (each r asked) (filter_twice p q b rows each)
  | inr other ↦ elim (cases_Bool (p r)) [
    | inl stays ↦ rw (stays, other) (filter_twice p q b rows each)
    | inr goes ↦ rw (goes, other) (filter_twice p q b rows each)
  ]
]
  where
    one : (b : Bool) → q r ≡ true → p r ≡ b → filter q (filter p rows) ≡ cond b (filter q rows) [] → filter q (filter p (r ∷ rows)) ≡ cond b (filter q (r ∷ rows)) []
    one true asked stays same = rw (stays, asked) (ap (λ l. r ∷ l) same)
    one false asked goes same = rw goes same

-- a stored request of an identity is of a lower epoch where the identity is
lower_is : (i : Identity) (least : ℕ) (r : Raw) → has_key (answers.at (request_key i)) r ≡ true → is_of_lower least r ≡ nat_lt i.epoch least
lower_is i least r has =
    let p = and_parts (is_value (column r 1) (Int (pos i.caller))) (is_value (column r 2) (Int (pos i.epoch)) && (is_value (column r 3) (Text i.id) && true)) has in
    let q = and_parts (is_value (column r 2) (Int (pos i.epoch))) (is_value (column r 3) (Text i.id) && true) p.1 in
    (λ k. is_number_below least (int_is (column r 2) (pos i.epoch) q.0 k) && (is_natural (int_is (column r 1) (pos i.caller) p.0 k) && is_text (text_is (column r 3) i.id (and_parts _ _ q.1).0 k))) ∙ and_true (nat_lt i.epoch least)

module _ (epoch : Option ℕ) (old new : Trees) (h : GivesUp epoch old new) where
  given_up_spares : (t : ℕ) → is_tree t ≡ true → t ≢ 28 → t ≢ 31 → new t ≡ old t
  given_up_spares t is p q = by epoch h
    where
      by : (o : Option ℕ) → GivesUp o old new → new t ≡ old t
      by None same = ap (λ (d : Trees). d t) same
      by (Some least) it = it.2.others t is q ∙ it.1.others t is p

  least_after : least_in (row_at epochs new tt) ≡ unwrap_or epoch (least_in (row_at epochs old tt))
  least_after = by epoch h
    where
      by : (o : Option ℕ) → GivesUp o old new → least_in (row_at epochs new tt) ≡ unwrap_or o (least_in (row_at epochs old tt))
      by None same = ap (λ (d : Trees). least_in (row_at epochs d tt)) same
      by (Some least) it = ap least_in it.2.here

  said_after : (least : ℕ) → row_at epochs old tt ≡ Some (Some least) → row_at epochs new tt ≡ Some (Some (unwrap_or epoch least))
  said_after least is = by epoch h
    where
      by : (o : Option ℕ) → GivesUp o old new → row_at epochs new tt ≡ Some (Some (unwrap_or o least))
      by None same = ap (λ (d : Trees). row_at epochs d tt) same ∙ is
      by (Some n) it = it.2.here

  answer_after : (i : Identity) → answer_in new i ≡ cond (is_below epoch i.epoch) None (answer_in old i)
  answer_after i = by epoch h
    where
      at : Rattle.review_sql_tables.specs.Search.At
      at = answers.at (request_key i)

      gone : (least : ℕ) (b : Bool) → nat_lt i.epoch least ≡ b → new 28 ≡ filter (λ r. not (is_of_lower least r)) (old 28) → answer_in new i ≡ cond b None (answer_in old i)
      gone least b is rows =
          let each : (r : Raw) → has_key at r ≡ true → not (is_of_lower least r) ≡ not b = λ r has. ap not (lower_is i least r has ∙ is) in
          ap (λ l. stored_as i (only (reads answers) (rows_at at l))) rows
          ∙ (ap (λ l. stored_as i (only (reads answers) l)) (filter_twice (λ r. not (is_of_lower least r)) (has_key at) (not b) (old 28) each) ∙ either b)
        where
          either : (b : Bool) → stored_as i (only (reads answers) (cond (not b) (rows_at at (old 28)) [])) ≡ cond b None (answer_in old i)
          either true = refl
          either false = refl

      by : (o : Option ℕ) → GivesUp o old new → answer_in new i ≡ cond (is_below o i.epoch) None (answer_in old i)
      by None same = ap (λ (d : Trees). answer_in d i) same
      by (Some least) it = gone least (nat_lt i.epoch least) refl (it.2.others 28 refl (λ e. omega (arith, e)) ∙ it.1.rows)

-- ---- all of it

module _ (delta : Delta) (kept : Kept) (n : Numbers) (a b : Trees) (was : IsDesk n a) (h : Then (Then (Then (SetsDelta delta) (SetsKept kept)) (GivesUp delta.least_epoch)) (SetsDesk (n.requests + 1)) a b) where
  abbrev t3 : Trees
  t3 = h.0

  abbrev t2 : Trees
  t2 = h.1.0

  abbrev t1 : Trees
  t1 = h.1.1.0

  abbrev u : Trees
  u = h.1.1.1.0

  abbrev d3 : Trees
  d3 = h.1.1.1.1.0

  abbrev d2 : Trees
  d2 = h.1.1.1.1.1.0

  abbrev d1 : Trees
  d1 = h.1.1.1.1.1.1.0

  last : (t : ℕ) → is_tree t ≡ true → t ≢ 28 → t ≢ 31 → t ≢ 25 → b t ≡ t1 t
  last t is p o q = h.2.others t is q ∙ (given_up_spares delta.least_epoch t2 t3 h.1.2 t is p o ∙ h.1.1.2.others t is p)

  late : (t : ℕ) → is_tree t ≡ true → is_part_tree t ≡ false → t ≢ 28 → t ≢ 31 → t ≢ 25 → b t ≡ u t
  late t is other p o q = last t is p o q ∙ edits_spare [] delta.changes.items u t1 h.1.1.1.2 t is other

  base_spares : (t : ℕ) → is_tree t ≡ true → t ≢ 6 → u t ≡ d3 t
  base_spares t is p = put_spares bases delta.base d3 u h.1.1.1.1.2 t is p

  file_spares : (t : ℕ) → is_tree t ≡ true → t ≢ 26 → d3 t ≡ d2 t
  file_spares t is p = put_spares projects delta.file d2 d3 h.1.1.1.1.1.2 t is p

  member_spares : (t : ℕ) → is_tree t ≡ true → t ≢ 2 → d2 t ≡ d1 t
  member_spares t is p = rows_spare members delta.members.items d1 d2 h.1.1.1.1.1.1.2 t is p

  account_spares : (t : ℕ) → is_tree t ≡ true → t ≢ 0 → d1 t ≡ a t
  account_spares t is p = rows_spare accounts delta.accounts.items a d1 h.1.1.1.1.1.1.1 t is p

  at_0 : b 0 ≡ d1 0
  at_0 = late 0 refl refl (λ e. omega (arith, e)) (λ e. omega (arith, e)) (λ e. omega (arith, e)) ∙ (base_spares 0 refl (λ e. omega (arith, e)) ∙ (file_spares 0 refl (λ e. omega (arith, e)) ∙ member_spares 0 refl (λ e. omega (arith, e))))

  at_2 : b 2 ≡ d2 2
  at_2 = late 2 refl refl (λ e. omega (arith, e)) (λ e. omega (arith, e)) (λ e. omega (arith, e)) ∙ (base_spares 2 refl (λ e. omega (arith, e)) ∙ file_spares 2 refl (λ e. omega (arith, e)))

  was_2 : d1 2 ≡ a 2
  was_2 = account_spares 2 refl (λ e. omega (arith, e))

  at_26 : b 26 ≡ d3 26
  at_26 = late 26 refl refl (λ e. omega (arith, e)) (λ e. omega (arith, e)) (λ e. omega (arith, e)) ∙ base_spares 26 refl (λ e. omega (arith, e))

  was_26 : d2 26 ≡ a 26
  was_26 = member_spares 26 refl (λ e. omega (arith, e)) ∙ account_spares 26 refl (λ e. omega (arith, e))

  at_6 : b 6 ≡ u 6
  at_6 = late 6 refl refl (λ e. omega (arith, e)) (λ e. omega (arith, e)) (λ e. omega (arith, e))

  was_6 : d3 6 ≡ a 6
  was_6 = file_spares 6 refl (λ e. omega (arith, e)) ∙ (member_spares 6 refl (λ e. omega (arith, e)) ∙ account_spares 6 refl (λ e. omega (arith, e)))

  was_28 : t1 28 ≡ a 28
  was_28 = edits_spare [] delta.changes.items u t1 h.1.1.1.2 28 refl refl ∙ (base_spares 28 refl (λ e. omega (arith, e)) ∙ (file_spares 28 refl (λ e. omega (arith, e)) ∙ (member_spares 28 refl (λ e. omega (arith, e)) ∙ account_spares 28 refl (λ e. omega (arith, e)))))

  was_31 : t1 31 ≡ a 31
  was_31 = edits_spare [] delta.changes.items u t1 h.1.1.1.2 31 refl refl ∙ (base_spares 31 refl (λ e. omega (arith, e)) ∙ (file_spares 31 refl (λ e. omega (arith, e)) ∙ (member_spares 31 refl (λ e. omega (arith, e)) ∙ account_spares 31 refl (λ e. omega (arith, e)))))

  -- the trees of changes before edits
  early : (t : ℕ) → is_tree t ≡ true → is_part_tree t ≡ true → u t ≡ a t
  early t is part = base_spares t is (other 6 t refl part) ∙ (file_spares t is (other 26 t refl part) ∙ (member_spares t is (other 2 t refl part) ∙ account_spares t is (other 0 t refl part)))
    where
      other : (n t : ℕ) → is_part_tree n ≡ false → is_part_tree t ≡ true → t ≢ n
      other n t not_one one same = both_ways (is_part_tree n) not_one (subst (λ m. is_part_tree m ≡ true) same one)

  rows : (k : Key) → row_in b k ≡ after delta k (row_in a k)
  rows (AccountKey number) =
      ap (λ l. told AccountRow (only (reads accounts) (rows_at (accounts.at number) l))) at_0
      ∙ (ap (told AccountRow) (rows_changed accounts nat_cmp numbers_exact delta.accounts.items a d1 h.1.1.1.1.1.1.1 number) ∙ told_account (row_edit_of nat_cmp delta.accounts.items number) (row_at accounts a number))
  rows (MemberKey group account) =
      let k : Member = record { group = group; account = account } in
      ap (λ l. told (λ u. MemberRow) (only (reads members) (rows_at (members.at k) l))) at_2
      ∙ (ap (told (λ u. MemberRow)) (rows_changed members member_cmp members_exact delta.members.items d1 d2 h.1.1.1.1.1.1.2 k) ∙ (told_member (row_edit_of member_cmp delta.members.items k) (row_at members d1 k)
      ∙ ap (λ l. after_row_edit (member_change (row_edit_of member_cmp delta.members.items k)) (told (λ u. MemberRow) (only (reads members) (rows_at (members.at k) l)))) was_2))
  rows (FileKey project) =
      ap (λ l. told FileRow (only (reads projects) (rows_at (projects.at project) l))) at_26
      ∙ (row_put projects (slice_cmp nat_cmp) names_exact FileRow delta.file d2 d3 h.1.1.1.1.1.2 project ∙ ap (λ l. after_put (slice_cmp nat_cmp) FileRow delta.file project (told FileRow (only (reads projects) (rows_at (projects.at project) l)))) was_26)
  rows (BaseKey project branch place) =
      let k : PlaceKey = record { project = project; branch = branch; place = place } in
      ap (λ l. told BaseRow (only (reads bases) (rows_at (bases.at k) l))) at_6
      ∙ (row_put bases place_cmp places_exact BaseRow delta.base d3 u h.1.1.1.1.2 k ∙ ap (λ l. after_put place_cmp BaseRow delta.base k (told BaseRow (only (reads bases) (rows_at (bases.at k) l)))) was_6)
  rows (PartKey n part) =
      part_same t1 b (last 9 refl (λ e. omega (arith, e)) (λ e. omega (arith, e)) (λ e. omega (arith, e))) (last 11 refl (λ e. omega (arith, e)) (λ e. omega (arith, e)) (λ e. omega (arith, e))) (last 14 refl (λ e. omega (arith, e)) (λ e. omega (arith, e)) (λ e. omega (arith, e)))
      (last 16 refl (λ e. omega (arith, e)) (λ e. omega (arith, e)) (λ e. omega (arith, e))) (last 18 refl (λ e. omega (arith, e)) (λ e. omega (arith, e)) (λ e. omega (arith, e))) (last 20 refl (λ e. omega (arith, e)) (λ e. omega (arith, e)) (λ e. omega (arith, e))) n part
      ∙ (parts_edited [] delta.changes.items u t1 h.1.1.1.2 n part
      ∙ ap (λ r. after_row_edit (option_map (option_map APart) (edited delta.changes.items n part)) r) (part_same a u (early 9 refl refl) (early 11 refl refl) (early 14 refl refl) (early 16 refl refl) (early 18 refl refl) (early 20 refl refl) n part))
  rows (OddKey o) = ap (λ odd. cond odd (Some OddRow) None) (unkeyed_same a b (commit_keeps delta kept n.requests a b h))

  counts : AreSingle a → (c : Count) → count_in b c ≡ count_after delta (row_in a) c (count_in a c)
  counts single Projects =
      ap length at_26 ∙ (file_count delta.file d2 d3 h.1.1.1.1.1.2 (λ p. subst (λ l. length (rows_at (projects.at p) l) ≤ 1) (sym was_26) (single.projects_are p))
      ∙ ap (λ l. count_put (λ p. true) delta.file (λ p. told FileRow (only (reads projects) (rows_at (projects.at p) l))) (length l)) was_26)
  counts single (BasesOf project) =
      ap (λ l. length (rows_at ((1, Text project) ∷ []) l)) at_6
      ∙ (base_count delta.base d3 u h.1.1.1.1.2 (λ k. subst (λ l. length (rows_at (bases.at k) l) ≤ 1) (sym was_6) (single.bases_are k)) project
      ∙ ap (λ l. count_put (λ (k : PlaceKey). bytes_eq k.project project) delta.base (λ k. told BaseRow (only (reads bases) (rows_at (bases.at k) l))) (length (rows_at ((1, Text project) ∷ []) l))) was_6)
  counts single ClosedEpochs =
      ap (λ l. least_in (only (reads epochs) (rows_at (epochs.at tt) l))) (h.2.others 31 refl (λ e. omega (arith, e)))
      ∙ (least_after delta.least_epoch t2 t3 h.1.2 ∙ ap (λ l. unwrap_or delta.least_epoch (least_in (only (reads epochs) (rows_at (epochs.at tt) l)))) (h.1.1.2.others 31 refl (λ e. omega (arith, e)) ∙ was_31))

  least_said : row_at epochs b tt ≡ Some (Some (unwrap_or delta.least_epoch n.least))
  least_said =
      ap (λ l. only (reads epochs) (rows_at (epochs.at tt) l)) (h.2.others 31 refl (λ e. omega (arith, e)))
      ∙ said_after delta.least_epoch t2 t3 h.1.2 n.least (ap (λ l. only (reads epochs) (rows_at (epochs.at tt) l)) (h.1.1.2.others 31 refl (λ e. omega (arith, e)) ∙ was_31) ∙ was.least_is)

  pub committed : AreSingle a → IsCommitted (tables_at a) delta (kept_row kept) (tables_at b)
  committed single = record {
    row_is = rows;
    count_is = counts single;
    answer_is = λ i. ap (λ l. stored_as i (only (reads answers) (rows_at (answers.at (request_key i)) l))) (h.2.others 28 refl (λ e. omega (arith, e)))
        ∙ (answer_after delta.least_epoch t2 t3 h.1.2 i ∙ ap (λ o. cond (is_below delta.least_epoch i.epoch) None o)
        (answer_row kept t1 t2 h.1.1.2 i ∙ ap (λ l. cond (is_same (kept_row kept).identity i) (Some (Answered (kept_row kept))) (stored_as i (only (reads answers) (rows_at (answers.at (request_key i)) l)))) was_28));
    version = (λ k. version_in (least_said k) (h.2.here k)) ∙ sym (λ k. version_in (was.least_is k) (was.desk_is k));
    requests = ap (number_of (λ d. d.requests)) h.2.here ∙ sym (ap (λ o. number_of (λ d. d.requests) o + 1) was.desk_is);
  }

  pub still_desk : IsDesk (with_request n delta.least_epoch) b
  still_desk = record { desk_is = h.2.here; least_is = least_said }

pub commits : (delta : Delta) (kept : Kept) (n : Numbers) (old new : Database) → OnDesk (Then (Then (Then (SetsDelta delta) (SetsKept kept)) (GivesUp delta.least_epoch)) (SetsDesk (n.requests + 1))) old new → Commits delta kept n old new
commits delta kept n old new h = record {
  ready = h.ready;
  committed = λ ready single was. committed delta kept n old.trees new.trees was (h.changes ready) single;
  desk = λ ready was. still_desk delta kept n old.trees new.trees was (h.changes ready);
  rest = λ ready. keeps_rest delta kept (n.requests + 1) old.trees new.trees (h.changes ready);
}
