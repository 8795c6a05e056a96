-- Tables of an earlier version that became those of a desk show the same history.
use Rattle.review_sql_tables.proofs.Common.{◌≡◌, ◌≢◌, ◌∙◌, ◌||◌, ℕ, List, [], ◌∷◌, Option, Some, None, option_map, Bool, cond, true, false, not, length, refl, sym, ap, subst, arith, inl, inr, eqb-true, ◌==◌, both_ways, or_parts, cases_Bool, eqb-false, Decides, AllByRecursion, list_any, Database, Trees, Raw, Text, AreApart, desk_schema, desk_tables, is_tree, Migrates, AreMoved, with_first_epoch, without_parent, IsReady, OnDesk, only, reads, row_at, rows_at, is_new, schema_at, version_of, Then}
use Rattle.review_sql_tables.specs.{Versions.AllMoved, declared.versions.EarlierVersion.EarlierVersion}
use Rattle.review_core_rules.specs.Parts.{Part}
use Rattle.review_machine_rows.specs.{Rows.Row, View.tables_version}
use Rattle.review_sql_records.proofs.Common.{Entry, Identity, at_tree, Next, Reading, own_of, Key, AccountKey, MemberKey, FileKey, BaseKey, PartKey, OddKey, AccountRow, MemberRow, FileRow, BaseRow, OddRow, Count, Projects, BasesOf, ClosedEpochs, IsViewBy, fact, counted, kept_answer, StoredFile, projects, answers, earlier_answers, request_key, earlier_key, first_epoch, answer_keyed, earlier_answer_keyed, project_keyed}
use Rattle.review_sql_records.proofs.ReadAlike.{answer_moved, answers_keyed, file_moved, projects_counted, projects_keyed, answers_of_others}
use Rattle.review_sql_records.specs.Forms.{accounts, members, bases, epochs}
use Rattle.review_sql_records.specs.declared.rows.Answered.{Answered as Rest}
use Rattle.review_sql_change_records.specs.Forms.{headers, patches, votes, roles, comments, attention_entries}
use Rattle.review_sql_lookups.specs.Tables.{IsEarlierDesk, keyed_tables_in, projects_in, tables_in, answer_in, count_in, has_unkeyed, keyed_tables, number_of, row_in, stored_as, tables_at, told, least_in, version_in}
use Rattle.review_sql_writes.{proofs.Edits.part_same, specs.Commits.IsDesk, specs.declared.numbers.Numbers.Numbers}
use Rattle.review_sql_writes.specs.inner.Words.{SetsDesk, SetsLeast}
use Rattle.review_sql.proofs.Shown.{not_kept_odd}
use Rattle.review_sql.specs.{Migrated.KeepsRows, Migrated.Upgrades, Opened.AreAllApart}
use Rattle.review_sql_tables.specs.declared.versions.EarlierVersion.TheVariants as earlier

-- what tells no odd row reads as what is told
pub told_file : (found : Option (Option StoredFile)) (file : Option StoredFile) → told FileRow found ≡ option_map FileRow file → found ≡ option_map Some file
told_file None None is = refl
told_file None (Some f) is = absurd (cc)
told_file (Some None) None is = absurd (cc)
told_file (Some None) (Some f) is = absurd (cc)
told_file (Some (Some g)) None is = absurd (cc)
told_file (Some (Some g)) (Some f) is = ap (option_map Some) (same_file (Some (FileRow g)) (Some (FileRow f)) is)
  where
    file_in : Option Row → Option StoredFile
    file_in (Some (FileRow x)) = Some x
    file_in o = None

    same_file : (a b : Option Row) → a ≡ b → file_in a ≡ file_in b
    same_file a b same = ap file_in same

-- where no odd row is told, there is none
no_odd : (odd : Bool) → cond odd (Some OddRow) None ≡ None → odd ≡ false
no_odd true is = absurd (cc)
no_odd false is = refl

-- the rows of a table have keys
abbrev AllKeyed : Trees → ℕ × (Raw → Bool) → Type 0
AllKeyed db t = list_any (λ r. not (t.1 r)) (db t.0) ≡ false

each_keyed : (tables : List (ℕ × (Raw → Bool))) (db : Trees) → has_unkeyed tables db ≡ false → AllByRecursion (AllKeyed db) tables
each_keyed [] db none = tt
each_keyed (t ∷ tables) db none = let parts = or_parts _ _ none in (parts.0, each_keyed tables db parts.1)

all_keyed : (tables : List (ℕ × (Raw → Bool))) (db : Trees) → AllByRecursion (AllKeyed db) tables → has_unkeyed tables db ≡ false
all_keyed [] db each = refl
all_keyed (t ∷ tables) db each = (λ i. each.0 i || all_keyed tables db each.1 i)

-- a table that has not come since version 1 has not come since a later one
since : (version : EarlierVersion) (t : ℕ) → is_new earlier.First t ≡ false → is_new version t ≡ false
since earlier.First t stays = stays
since earlier.Second t stays = (or_parts _ _ stays).1

-- the epochs have come since each version
not_epochs : (version : EarlierVersion) (t : ℕ) → is_new version t ≡ false → t ≢ epochs.tree
not_epochs version t stays same = absurd (both_ways (is_new version t) stays (subst (λ n. is_new version n ≡ true) (sym same) (come version)))
  where
    come : (v : EarlierVersion) → is_new v epochs.tree ≡ true
    come earlier.First = refl
    come earlier.Second = refl

-- ---- what moved

module _ (old mid : Trees) where
  abbrev Stay : EarlierVersion → Type 0
  Stay version = (t : ℕ) → is_tree t ≡ true → is_new version t ≡ false → mid t ≡ old t

  stored_moved : (version : EarlierVersion) → AllMoved version old mid → AreMoved with_first_epoch (old 22) (mid 28)
  stored_moved earlier.First moved = moved.1.0
  stored_moved earlier.Second moved = moved.0

  file_stays : (version : EarlierVersion) → AllMoved version old mid → Stay version → AllKeyed old ((projects_in version).tree, project_keyed)
      → (p : List ℕ) (file : Option StoredFile) → row_at (projects_in version) old p ≡ option_map Some file → row_at projects mid p ≡ option_map Some file
  file_stays earlier.First moved stay keyed p file is = file_moved (old 4) (mid 26) moved.0 keyed p file is
  file_stays earlier.Second moved stay keyed p file is = ap (λ l. only (reads projects) (rows_at (projects.at p) l)) (stay 26 refl refl) ∙ is

  count_stays : (version : EarlierVersion) → AllMoved version old mid → Stay version → AllKeyed old ((projects_in version).tree, project_keyed) → length (mid 26) ≡ length (old (projects_in version).tree)
  count_stays earlier.First moved stay keyed = projects_counted (old 4) (mid 26) moved.0 keyed
  count_stays earlier.Second moved stay keyed = ap length (stay 26 refl refl)

  keyed_stays : (version : EarlierVersion) → AllMoved version old mid → Stay version → AllKeyed old ((projects_in version).tree, project_keyed) → AllKeyed mid (26, project_keyed)
  keyed_stays earlier.First moved stay keyed = projects_keyed (old 4) (mid 26) moved.0 keyed
  keyed_stays earlier.Second moved stay keyed = ap (list_any (λ r. not (project_keyed r))) (stay 26 refl refl) ∙ keyed

  -- what moved stays where it is written on
  moved_on : (version : EarlierVersion) (new : Trees) → new 26 ≡ mid 26 → new 28 ≡ mid 28 → AllMoved version old mid → AllMoved version old new
  moved_on earlier.First new files stored moved = (subst (AreMoved without_parent (old 4)) (sym files) moved.0, (subst (AreMoved with_first_epoch (old 22)) (sym stored) moved.1.0, tt))
  moved_on earlier.Second new files stored moved = (subst (AreMoved with_first_epoch (old 22)) (sym stored) moved.0, tt)

module _ (version : EarlierVersion) (numbers : Numbers) (old mid new : Trees) (stay : (t : ℕ) → is_tree t ≡ true → is_new version t ≡ false → mid t ≡ old t) (moved : AllMoved version old mid) (sets : Then (SetsLeast numbers.least) (SetsDesk numbers.requests) mid new) where
  after : (t : ℕ) → is_tree t ≡ true → t ≢ 31 → t ≢ 25 → new t ≡ mid t
  after t is p q = sets.2.others t is q ∙ sets.1.others t is p

  same : (t : ℕ) → is_tree t ≡ true → is_new version t ≡ false → t ≢ 25 → new t ≡ old t
  same t is p q = after t is (not_epochs version t p) q ∙ stay t is p

  -- the same of tables of version 1
  kept : (t : ℕ) → is_tree t ≡ true → is_new earlier.First t ≡ false → t ≢ 25 → new t ≡ old t
  kept t is p q = same t is (since version t p) q

  files_after : new 26 ≡ mid 26
  files_after = after 26 refl (λ e. omega (arith, e)) (λ e. omega (arith, e))

  stored_after : new 28 ≡ mid 28
  stored_after = after 28 refl (λ e. omega (arith, e)) (λ e. omega (arith, e))

  parts_stay : (n : ℕ) (part : Part) → row_in new (PartKey n part) ≡ row_in old (PartKey n part)
  parts_stay n part =
      part_same old new (kept 9 refl refl (λ e. omega (arith, e))) (kept 11 refl refl (λ e. omega (arith, e))) (kept 14 refl refl (λ e. omega (arith, e)))
      (kept 16 refl refl (λ e. omega (arith, e))) (kept 18 refl refl (λ e. omega (arith, e))) (kept 20 refl refl (λ e. omega (arith, e))) n part

  pub desk_after : IsDesk numbers new
  desk_after = record { desk_is = sets.2.here; least_is = ap (λ l. only (reads epochs) (rows_at (epochs.at tt) l)) (sets.2.others 31 refl (λ e. omega (arith, e))) ∙ sets.1.here }

  -- whatever rows there are
  pub rows_kept : KeepsRows version old new
  rows_kept = record {
    moved = moved_on old mid version new files_after stored_after moved;
    others = (same 0 refl, (same 2 refl, (same 6 refl, (same 9 refl, (same 11 refl, (same 14 refl, (same 16 refl, (same 18 refl, (same 20 refl, (same 25 refl, (same 26 refl, (same 28 refl, (same 31 refl, tt)))))))))))));
  }

  module _ (reading : Reading) (h : List Entry) (was : IsViewBy reading h (record (tables_in version old) { version = tables_version })) (first : numbers.least ≡ first_epoch) where
    before : AllByRecursion (AllKeyed old) (keyed_tables_in version)
    before = each_keyed (keyed_tables_in version) old (no_odd _ (was.row_is (OddKey [])))

    files_keyed : AllKeyed old ((projects_in version).tree, project_keyed)
    files_keyed = by version before.1.1.0
      where
        by : (v : EarlierVersion) → AllKeyed old ((projects_in v).tree, (projects_in v).keyed) → AllKeyed old ((projects_in v).tree, project_keyed)
        by earlier.First is = is
        by earlier.Second is = is

    stored_keyed : list_any (λ r. not (earlier_answer_keyed r)) (old 22) ≡ false
    stored_keyed = before.1.1.1.1.0

    stay_keyed : (t : ℕ) (keyed : Raw → Bool) → new t ≡ old t → AllKeyed old (t, keyed) → AllKeyed new (t, keyed)
    stay_keyed t keyed is was = ap (list_any (λ r. not (keyed r))) is ∙ was

    unkeyed : has_unkeyed keyed_tables new ≡ false
    unkeyed =
        let rest = before.1.1.1.1.1 in
        all_keyed keyed_tables new (
          stay_keyed 0 accounts.keyed (kept 0 refl refl (λ e. omega (arith, e))) before.0,
          (
            stay_keyed 2 members.keyed (kept 2 refl refl (λ e. omega (arith, e))) before.1.0,
            (
              ap (list_any (λ r. not (project_keyed r))) files_after ∙ keyed_stays old mid version moved stay files_keyed,
              (
                stay_keyed 6 bases.keyed (kept 6 refl refl (λ e. omega (arith, e))) before.1.1.1.0,
                (
                  ap (list_any (λ r. not (answer_keyed r))) stored_after ∙ answers_keyed (old 22) (mid 28) (stored_moved old mid version moved) stored_keyed,
                  (
                    stay_keyed 9 headers.keyed (kept 9 refl refl (λ e. omega (arith, e))) rest.0,
                    (
                      stay_keyed 11 patches.keyed (kept 11 refl refl (λ e. omega (arith, e))) rest.1.0,
                      (
                        stay_keyed 14 votes.keyed (kept 14 refl refl (λ e. omega (arith, e))) rest.1.1.0,
                        (
                          stay_keyed 16 roles.keyed (kept 16 refl refl (λ e. omega (arith, e))) rest.1.1.1.0,
                          (
                            stay_keyed 18 comments.keyed (kept 18 refl refl (λ e. omega (arith, e))) rest.1.1.1.1.0,
                            (stay_keyed 20 attention_entries.keyed (kept 20 refl refl (λ e. omega (arith, e))) rest.1.1.1.1.1.0, tt),
                          ),
                        ),
                      ),
                    ),
                  ),
                ),
              ),
            ),
          ),
        )

    file_row : (project : List ℕ) → told FileRow (row_at projects new project) ≡ option_map FileRow (own_of h project)
    file_row project =
        ap (λ l. told FileRow (only (reads projects) (rows_at (projects.at project) l))) files_after
        ∙ by (own_of h project) (file_stays old mid version moved stay files_keyed project (own_of h project) (told_file (row_at (projects_in version) old project) (own_of h project) (was.row_is (FileKey project))))
      where
        by : (file : Option StoredFile) → row_at projects mid project ≡ option_map Some file → told FileRow (row_at projects mid project) ≡ option_map FileRow file
        by None is = ap (told FileRow) is
        by (Some f) is = ap (told FileRow) is

    rows : (k : Key) → row_in new k ≡ fact reading h k
    rows (AccountKey n) = ap (λ l. told AccountRow (only (reads accounts) (rows_at (accounts.at n) l))) (kept 0 refl refl (λ e. omega (arith, e))) ∙ was.row_is (AccountKey n)
    rows (MemberKey group n) = ap (λ l. told (λ u. MemberRow) (only (reads members) (rows_at (members.at (record { group = group; account = n })) l))) (kept 2 refl refl (λ e. omega (arith, e))) ∙ was.row_is (MemberKey group n)
    rows (FileKey project) = file_row project
    rows (BaseKey project branch place) = ap (λ l. told BaseRow (only (reads bases) (rows_at (bases.at (record { project = project; branch = branch; place = place })) l))) (kept 6 refl refl (λ e. omega (arith, e))) ∙ was.row_is (BaseKey project branch place)
    rows (PartKey n part) = parts_stay n part ∙ was.row_is (PartKey n part)
    rows (OddKey o) = ap (λ odd. cond odd (Some OddRow) None) unkeyed

    counts : (c : Count) → count_in new c ≡ counted h c
    counts Projects = ap length files_after ∙ (count_stays old mid version moved stay files_keyed ∙ was.count_is Projects)
    counts (BasesOf project) = ap (λ l. length (rows_at ((1, Text project) ∷ []) l)) (kept 6 refl refl (λ e. omega (arith, e))) ∙ was.count_is (BasesOf project)
    counts ClosedEpochs = ap least_in desk_after.least_is ∙ (first ∙ was.count_is ClosedEpochs)

    stored : (i : Identity) → answer_in new i ≡ kept_answer h i
    stored i =
        ap (λ l. stored_as i (only (reads answers) (rows_at (answers.at (request_key i)) l))) stored_after
        ∙ elim (cases_Bool (i.epoch == first_epoch)) [
          | inl first ↦ by (row_at earlier_answers old (earlier_key i.caller i.id)) refl (eqb-true i.epoch first_epoch first) (sym (ap (λ b. cond b (stored_as i (row_at earlier_answers old (earlier_key i.caller i.id))) None) first) ∙ was.answer_is i)
          | inr other ↦
              ap (λ l. stored_as i (only (reads answers) l)) (answers_of_others (old 22) (mid 28) (stored_moved old mid version moved) i.caller i.epoch i.id (λ same. eqb-false i.epoch first_epoch other same))
              ∙ (sym (ap (λ b. cond b (stored_as i (row_at earlier_answers old (earlier_key i.caller i.id))) None) other) ∙ was.answer_is i)
        ]
      where
        moved_so : (found : Option Rest) → i.epoch ≡ first_epoch → row_at earlier_answers old (earlier_key i.caller i.id) ≡ option_map Some found → answer_in mid i ≡ stored_as i (option_map Some found)
        moved_so found first is =
            ap (λ e. stored_as i (row_at answers mid (record { caller = i.caller; epoch = e; id = i.id }))) first
            ∙ ap (stored_as i) (answer_moved (old 22) (mid 28) (stored_moved old mid version moved) stored_keyed i.caller i.id found is)

        by : (found : Option (Option Rest)) → row_at earlier_answers old (earlier_key i.caller i.id) ≡ found → i.epoch ≡ first_epoch → stored_as i found ≡ kept_answer h i → answer_in mid i ≡ kept_answer h i
        by None is first told = moved_so None first is ∙ told
        by (Some None) is first told = absurd (not_kept_odd h i (sym told))
        by (Some (Some a)) is first told = moved_so (Some a) first is ∙ told

    pub shows : IsEarlierDesk version numbers.requests old → IsViewBy reading h (tables_at new)
    shows said = record {
      row_is = rows;
      count_is = counts;
      answer_is = stored;
      version = (λ k. version_in (desk_after.least_is k) (sets.2.here k));
      requests = ap (number_of (λ d. d.requests)) sets.2.here ∙ (sym (ap (number_of (λ d. d.requests)) said) ∙ was.requests);
    }

-- what was seen of the tables between, of ours: that the rows of each have rowids of their own
abbrev pub Looked : Database → Database → Type 0
Looked old new = old.schema ≡ desk_schema → (new ≡ old) × Decides true (AreAllApart old.trees)

pub upgrades : (version : EarlierVersion) (numbers : Numbers) (old new : Database) → Next (Next (Migrates version) Looked) (OnDesk (Then (SetsLeast numbers.least) (SetsDesk numbers.requests))) old new → Upgrades version true numbers old new
upgrades version numbers old new h = record {
  ready = λ ours has. (h.2.ready (ready has), desk_after version numbers old.trees mid.trees new.trees (stay has) (moved has) (h.2.changes (ready has)));
  keeps = λ ours has. rows_kept version numbers old.trees mid.trees new.trees (stay has) (moved has) (h.2.changes (ready has));
  view = λ ours has said first history was reading right.
      shows version numbers old.trees mid.trees new.trees (stay has) (moved has) (h.2.changes (ready has)) reading history (was.1 reading right) first said;
}
  where
    mid : Database
    mid = h.0

    between : Database
    between = h.1.0

    migrated : Migrates version old between
    migrated = h.1.1

    looked : old.schema ≡ schema_at (version_of version) → (mid ≡ between) × Decides true (AreAllApart between.trees)
    looked has = h.1.2 (migrated.schema has)

    stay : old.schema ≡ schema_at (version_of version) → (t : ℕ) → is_tree t ≡ true → is_new version t ≡ false → mid.trees t ≡ old.trees t
    stay has t is p = ap (λ (d : Database). d.trees t) (looked has).0 ∙ at_tree (λ n. is_new version n ≡ false → between.trees n ≡ old.trees n) desk_tables (migrated.others has) t is p

    moved : old.schema ≡ schema_at (version_of version) → AllMoved version old.trees mid.trees
    moved has = subst (λ (d : Database). AllMoved version old.trees d.trees) (sym (looked has).0) (migrated.moved has)

    ready : old.schema ≡ schema_at (version_of version) → IsReady mid
    ready has = subst IsReady (sym (looked has).0) (record { schema = migrated.schema has; sound = migrated.sound has; apart = λ t is. at_tree (λ n. AreApart (between.trees n)) desk_tables ((looked has).1.0 refl) t is })
