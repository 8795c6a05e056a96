-- What the tables `desk` and `epochs` say where the tables are of our form, and where there is none.
use Rattle.{sqlite_schema.specs.declared.command.Command.TheVariants.Select, review_words.specs.Epochs.is_epoch}
use Rattle.review_sql_tables.proofs.Common.{◌≡◌, ◌≢◌, ◌∙◌, inl, inr, ℕ, List, [], ◌∷◌, map, filter, Option, Some, None, Ok, Err, true, false, codes, refl, sym, ap, subst, arith, All-from_recursion, length_permutation, same_Some, AllByRecursion, IsPermutation, is_ok, command_of, one_permutation, Database, Reads, understood, listing_schema, filter_same, Checked, Compiled, Schema, Term, col, everything, Row, column, Null, has_key, desk_schema, schema_0, only, reads, row_at, over_table, schema_at, version_number, version_of}
use Rattle.review_sql_tables.proofs.{Meaning.plain, Queries.passes, Queries.selects, Queries.shows}
use Rattle.review_sql_tables.specs.declared.texts.TheConstants.{FIND_DESK, FIND_EPOCHS, READ_ROWS}
use Rattle.review_sql_tables.specs.declared.versions.{EarlierVersion.EarlierVersion, TablesVersion.TablesVersion}
use Rattle.review_sql_tables.specs.declared.versions.TablesVersion.TheVariants.{First, Second, Third}
use Rattle.review_sql_records.proofs.Common.{first_epoch, where_is}
use Rattle.review_sql_records.specs.{Forms.desk, Forms.desk_row, Forms.epochs, declared.rows.DeskRow.DeskRow}
use Rattle.review_sql_lookups.specs.Tables.{IsEarlierDesk}
use Rattle.review_sql_writes.specs.{Commits.IsDesk, declared.numbers.Numbers.Numbers}
use Rattle.review_sql.specs.Opened.{number_of_one, version_shown, requests_shown, ShowsDesk, ShowsEpochs, ShowsRows, IsDeskThere, IsThere, IsNoDesk, IsNone, IsOtherVersion, LacksDesk, least_shown, SaysLeast}
use Rattle.review_sql.specs.Shelf.{AreAllRead, IsUnderstood}
use Rattle.review_sql_tables.specs.declared.versions.EarlierVersion.TheVariants as earlier

-- ---- the texts over our form

find_is : (version : TablesVersion) → command_of (understood (schema_at version) FIND_DESK.now) ≡ Select (record { lets = []; body = over_table 25 [] (col 1 1 ∷ col 1 2 ∷ []) [] }) (codes "version" ∷ codes "requests" ∷ [])
unfolding understood everything
find_is First = refl
find_is _ = refl

find_epochs_is : command_of (understood desk_schema FIND_EPOCHS.now) ≡ Select (record { lets = []; body = over_table 31 [] (col 1 1 ∷ []) [] }) (codes "least" ∷ [])
unfolding understood everything
find_epochs_is = refl

find_known : is_ok (understood desk_schema FIND_DESK.now) ≡ true
unfolding understood everything
find_known = refl

all_known : AllByRecursion (λ sql. is_ok (understood desk_schema sql) ≡ true) (map (λ t. t.now) READ_ROWS)
unfolding understood everything
all_known = (refl, (refl, (refl, (refl, (refl, (refl, (refl, (refl, (refl, (refl, (refl, (refl, tt))))))))))))

-- no text is understood as a look at the table `desk` where there is no table
none_known : is_ok (understood schema_0 FIND_DESK.now) ≡ false
unfolding understood everything listing_schema
none_known = refl

if_ok : (r : Checked Compiled) → is_ok r ≡ true → (c : Compiled) × (r ≡ Ok c)
if_ok (Ok c) is = (c, refl)
if_ok (Err e) is = absurd (cc)

pub not_ok : (r : Checked Compiled) (c : Compiled) → is_ok r ≡ false → r ≡ Ok c → ⊥
not_ok (Ok d) c fails is = cc
not_ok (Err e) c fails is = cc

pub understands : IsUnderstood desk_schema FIND_DESK.now
understands = if_ok _ find_known

pub understands_none : IsUnderstood schema_0 FIND_DESK.now → ⊥
understands_none it = not_ok _ it.0 none_known it.1

pub reads_all : AreAllRead Third desk_schema
reads_all = record {
  each = λ sql inside.
      if_ok _ (subst (λ s. is_ok (understood desk_schema s) ≡ true) inside.2 (All-from_recursion (λ s. is_ok (understood desk_schema s) ≡ true) (map (λ t. t.now) READ_ROWS) all_known inside.0 sql inside.1));
}

-- ---- one row, in whatever order rows are shown

same_number : (at : ℕ) (rows others : List Row) → IsPermutation rows others → number_of_one at rows ≡ number_of_one at others
same_number at [] [] same = refl
same_number at [] (r ∷ others) same = absurd (let l = length_permutation [] (r ∷ others) same in omega (arith, l))
same_number at (r ∷ []) others same = ap (number_of_one at) (sym (one_permutation r others same))
same_number at (r ∷ s ∷ rows) [] same = absurd (let l = length_permutation (r ∷ s ∷ rows) [] same in omega (arith, l))
same_number at (r ∷ s ∷ rows) (q ∷ []) same = absurd (let l = length_permutation (r ∷ s ∷ rows) (q ∷ []) same in omega (arith, l))
same_number at (r ∷ s ∷ rows) (q ∷ p ∷ others) same = refl

-- what a text shows of the rows of a table
shown_of : (sql : List ℕ) (schema : Schema) (tree : ℕ) (terms : List Term) (names : List (List ℕ)) → command_of (understood schema sql) ≡ Select (record { lets = []; body = over_table tree [] terms [] }) names
    → (db : Database) (rows : List Row) → db.schema ≡ schema → ShowsRows db sql rows → IsPermutation (map (shows [] terms) (filter (has_key []) (db.trees tree))) rows
shown_of sql schema tree terms names is db rows has it =
    let known = sym it.is ∙ ap (λ s. understood s sql) has in
    let read : Reads (Select (record { lets = []; body = over_table tree [] terms [] }) names) db [] rows = subst (λ k. Reads k db [] rows) (ap command_of known ∙ is) it.shown in
    subst (λ l. IsPermutation (map (shows [] terms) l) rows) (filter_same (passes [] []) (has_key []) (λ row. refl) (db.trees tree)) (selects tree [] terms [] db.trees [] rows (plain db.trees tree) (read.answer Null))

-- what is shown of a row of the table `desk`
abbrev two : Row → Row
two r = column r 1 ∷ column r 2 ∷ []

module _ (version : TablesVersion) (db : Database) (has : db.schema ≡ schema_at version) (rows : List Row) (shown : ShowsDesk db rows) where
  abbrev stored : List Row
  stored = filter (has_key []) (db.trees 25)

  shown_are : IsPermutation (map two stored) rows
  shown_are = shown_of FIND_DESK.now (schema_at version) 25 (col 1 1 ∷ col 1 2 ∷ []) (codes "version" ∷ codes "requests" ∷ []) (find_is version) db rows has shown

  says : (at : ℕ) → number_of_one at (map two stored) ≡ number_of_one at rows
  says at = same_number at (map two stored) rows shown_are

  says_row : (raws : List Row) (number requests : ℕ) → number_of_one 0 (map two raws) ≡ Some number → number_of_one 1 (map two raws) ≡ Some requests → only (reads desk) raws ≡ Some (Some (record { version = number; requests = requests }))
  says_row [] number requests v n = absurd (cc)
  says_row (r ∷ []) number requests v n = rw (v, n) refl
  says_row (r ∷ s ∷ raws) number requests v n = absurd (cc)

  pub is_desk : (number requests : ℕ) → version_shown rows ≡ Some number → requests_shown rows ≡ Some requests → row_at desk db.trees tt ≡ Some (Some (record { version = number; requests = requests }))
  is_desk number requests v n = says_row stored number requests (says 0 ∙ v) (says 1 ∙ n)

  parts_of : (a b : Option ℕ) (d : DeskRow) → Some (desk_row a b) ≡ Some (Some d) → (a ≡ Some d.version) × (b ≡ Some d.requests)
  parts_of None b d is = let e = same_Some None (Some d) is in cc
  parts_of (Some v) None d is = let e = same_Some None (Some d) is in cc
  parts_of (Some v) (Some n) d is =
      let same = same_Some _ _ (same_Some _ _ is) in
      (ap (λ (x : DeskRow). Some x.version) same, ap (λ (x : DeskRow). Some x.requests) same)

  row_says : (raws : List Row) (d : DeskRow) → only (reads desk) raws ≡ Some (Some d) → (number_of_one 0 (map two raws) ≡ Some d.version) × (number_of_one 1 (map two raws) ≡ Some d.requests)
  row_says [] d is = absurd (cc)
  row_says (r ∷ []) d is = parts_of _ _ d is
  row_says (r ∷ s ∷ raws) d is = absurd (let e = same_Some None (Some d) is in cc)

  pub desk_says : (numbers : Numbers) → IsDesk numbers db.trees → (version_shown rows ≡ Some 3) × (requests_shown rows ≡ Some numbers.requests)
  desk_says numbers is =
      let it = row_says stored (record { version = 3; requests = numbers.requests }) is.desk_is in
      (sym (says 0) ∙ it.0, sym (says 1) ∙ it.1)

-- what is shown of a row of the table `epochs`
abbrev one : Row → Row
one r = column r 1 ∷ []

module _ (db : Database) (has : db.schema ≡ desk_schema) (rows : List Row) (shown : ShowsEpochs db rows) where
  abbrev kept : List Row
  kept = filter (has_key []) (db.trees 31)

  number_same : number_of_one 0 (map one kept) ≡ number_of_one 0 rows
  number_same = same_number 0 (map one kept) rows (shown_of FIND_EPOCHS.now desk_schema 31 (col 1 1 ∷ []) (codes "least" ∷ []) find_epochs_is db rows has shown)

  is_least : (least : ℕ) → least_shown rows ≡ Some least → row_at epochs db.trees tt ≡ Some (Some least)
  is_least least says = by kept (ap (where_is is_epoch) number_same ∙ says)
    where
      by : (raws : List Row) → where_is is_epoch (number_of_one 0 (map one raws)) ≡ Some least → only (reads epochs) raws ≡ Some (Some least)
      by [] n = absurd (cc)
      by (r ∷ []) n = ap (λ o. Some o) n
      by (r ∷ s ∷ raws) n = absurd (cc)

  least_says : (least : ℕ) → row_at epochs db.trees tt ≡ Some (Some least) → least_shown rows ≡ Some least
  least_says least is = sym (ap (where_is is_epoch) number_same) ∙ by kept is
    where
      by : (raws : List Row) → only (reads epochs) raws ≡ Some (Some least) → where_is is_epoch (number_of_one 0 (map one raws)) ≡ Some least
      by [] n = absurd (cc)
      by (r ∷ []) n = same_Some _ _ n
      by (r ∷ s ∷ raws) n = absurd (let e = same_Some None (Some least) n in cc)

-- before version 3 the least open epoch is the first
pub first_least : (version : EarlierVersion) (db : Database) (least : ℕ) → SaysLeast (version_of version) db least → least ≡ first_epoch
first_least earlier.First db least says = says
first_least earlier.Second db least says = says

-- ---- a desk of ours

no_some : (o : Option ℕ) (n : ℕ) → o ≡ Some n → o ≡ None → ⊥
no_some o n some none = let e = sym some ∙ none in cc

pub desk_of_ours : (db : Database) → db.schema ≡ desk_schema → (numbers : Numbers) → IsDeskThere db numbers → IsDesk numbers db.trees
desk_of_ours db has numbers there = record {
  desk_is = is_desk Third db has there.rows there.shown 3 numbers.requests there.version_is there.requests_are;
  least_is = is_least db has there.least.0 there.least.1 numbers.least there.least.2;
}

-- the same of an earlier version
pub earlier_of_ours : (version : EarlierVersion) (db : Database) → db.schema ≡ schema_at (version_of version) → (numbers : Numbers) → IsThere (version_of version) db numbers → IsEarlierDesk version numbers.requests db.trees
earlier_of_ours version db has numbers there = is_desk (version_of version) db has there.rows there.shown (version_number (version_of version)) numbers.requests there.version_is there.requests_are

pub never_no_desk : (db : Database) → db.schema ≡ desk_schema → (numbers : Numbers) → IsDesk numbers db.trees → IsNoDesk db → ⊥
never_no_desk db has numbers is (inl missing) = missing (subst (λ s. IsUnderstood s FIND_DESK.now) (sym has) understands)
never_no_desk db has numbers is (inr odd) = let it = desk_says Third db has odd.0 odd.1 numbers is in lacks odd.0 it.0 it.1 odd.2
  where
    lacks : (rows : List Row) → version_shown rows ≡ Some 3 → requests_shown rows ≡ Some numbers.requests → LacksDesk Third db rows → ⊥
    lacks rows v n (inl none) = no_some _ _ v none
    lacks rows v n (inr (_, inl none)) = no_some _ _ n none
    lacks rows v n (inr (_, inr (inl missing))) = missing (subst (AreAllRead Third) (sym has) reads_all)
    lacks rows v n (inr (_, inr (inr other))) = no_some _ _ (least_says db has other.0 other.1 numbers.least is.least_is) other.2

-- nor is it none of a version that it doesn't say
pub never_earlier : (version : TablesVersion) → version_number version ≢ 3 → (db : Database) → db.schema ≡ desk_schema → (numbers : Numbers) → IsDesk numbers db.trees → IsNone version db → ⊥
never_earlier version other db has numbers is (inl missing) = missing (subst (λ s. IsUnderstood s FIND_DESK.now) (sym has) understands)
never_earlier version other db has numbers is (inr odd) = lacks odd.0 (desk_says Third db has odd.0 odd.1 numbers is).0 odd.2
  where
    lacks : (rows : List Row) → version_shown rows ≡ Some 3 → LacksDesk version db rows → ⊥
    lacks rows v (inl none) = no_some _ _ v none
    lacks rows v (inr (is, _)) = other (same_Some _ _ (sym is ∙ v))

-- nor is it there as one of such a version
pub never_there_earlier : (version : TablesVersion) → version_number version ≢ 3 → (db : Database) → db.schema ≡ desk_schema → (numbers : Numbers) → IsDesk numbers db.trees → (n : Numbers) → IsThere version db n → ⊥
never_there_earlier version other db has numbers is n there = other (same_Some _ _ (sym there.version_is ∙ (desk_says Third db has there.rows there.shown numbers is).0))

pub never_other_version : (db : Database) → db.schema ≡ desk_schema → (numbers : Numbers) → IsDesk numbers db.trees → IsOtherVersion db → ⊥
never_other_version db has numbers is other =
    other.2.2.0 (same_Some _ _ (sym other.2.1 ∙ (desk_says Third db has other.0 other.1 numbers is).0))

-- where there is no table nothing is shown of one
pub never_shown : (db : Database) → db.schema ≡ schema_0 → (rows : List Row) → ShowsDesk db rows → ⊥
never_shown db has rows shown = understands_none (shown.query, subst (λ s. understood s FIND_DESK.now ≡ Ok shown.query) has shown.is)
