-- A database as the tables of a desk, of this version or an earlier one.
use Rattle.std.specs.List.{list_any}
use Rattle.std.specs.Prelude.{option_map, ℤ, ℕ, ◌≡◌, Bool, not, List, [], ◌∷◌, length, Option, Some, None, if◌then◌else◌, ◌==◌}
use Rattle.{sqlite_trees.specs.Tree.Trees, sqlite_value.specs.Order.Row as Raw}
use Rattle.{sqlite_value.specs.declared.value.Value.TheVariants.Text, review_words.specs.History.Identity}
use Rattle.review_sql_tables.specs.Search.{rows_at, row_at, Search}
use Rattle.review_sql_tables.specs.Versions.{version_number, version_of}
use Rattle.review_sql_tables.specs.declared.versions.EarlierVersion.{EarlierVersion}
use Rattle.review_core_rules.specs.Parts.{Part, TheHeader, PatchOf, VoteOf, RoleOf, CommentOf, AttentionOf, AHeader, APatch, ARole, AComment, AnAttentionEntry}
use Rattle.review_machine_rows.specs.Rows.{Key, AccountKey, MemberKey, FileKey, BaseKey, PartKey, OddKey, Row, AccountRow, MemberRow, FileRow, BaseRow, APart, OddRow, vote_row, Count, Projects, BasesOf, ClosedEpochs, Stored, Answered, OddAnswer, Tables}
use Rattle.review_machine_rows.specs.{View.tables_version, declared.rows.StoredFile.StoredFile}
use Rattle.review_sql_records.specs.Forms.{accounts, members, projects, bases, answers, desk, epochs, request_key, earlier_answers, earlier_key, first_epoch, first_projects}
use Rattle.review_sql_records.specs.declared.rows.{Answered.Answered as Rest, DeskRow.DeskRow}
use Rattle.review_sql_change_records.specs.Forms.{headers, patches, votes, roles, comments, attention_entries}
use Rattle.review_sql_tables.specs.declared.versions.EarlierVersion.TheVariants as earlier

-- a row as tables tell it; an odd one is none of its table
abbrev pub told : {X : Type 0} → (X → Row) → Option (Option X) → Option Row
told kind None = None
told kind (Some None) = Some OddRow
told kind (Some (Some x)) = Some (kind x)

-- the same of a vote, of which a value of 0 is none
abbrev pub vote_told : Option (Option ℤ) → Option Row
vote_told None = None
vote_told (Some None) = Some OddRow
vote_told (Some (Some v)) = option_map APart (vote_row (Some v))

-- a row of a change
abbrev pub part_in : Trees → ℕ → Part → Option Row
part_in db n TheHeader = told (λ x. APart (AHeader x)) (row_at headers db n)
part_in db n (PatchOf k) = told (λ x. APart (APatch x)) (row_at patches db (n, k))
part_in db n (VoteOf k l a) = vote_told (row_at votes db (n, record { patch = k; label = l; account = a }))
part_in db n (RoleOf u) = told (λ x. APart (ARole x)) (row_at roles db (n, u))
part_in db n (CommentOf k) = told (λ x. APart (AComment x)) (row_at comments db (n, k))
part_in db n (AttentionOf u) = told (λ x. APart (AnAttentionEntry x)) (row_at attention_entries db (n, u))

-- the tables of records, where the projects and the stored requests stand in these, and which of their rows have a key
abbrev pub keyed_with : ℕ × (Raw → Bool) → ℕ × (Raw → Bool) → List (ℕ × (Raw → Bool))
keyed_with files stored =
    (accounts.tree, accounts.keyed) ∷ (members.tree, members.keyed) ∷ files ∷ (bases.tree, bases.keyed) ∷ stored
    ∷ (headers.tree, headers.keyed) ∷ (patches.tree, patches.keyed) ∷ (votes.tree, votes.keyed) ∷ (roles.tree, roles.keyed) ∷ (comments.tree, comments.keyed) ∷ (attention_entries.tree, attention_entries.keyed) ∷ []

-- the tables of records, and which of their rows have a key
abbrev pub keyed_tables : List (ℕ × (Raw → Bool))
keyed_tables = keyed_with (projects.tree, projects.keyed) (answers.tree, answers.keyed)

-- whether a row has no key of its table, as a member with a negative number
abbrev pub has_unkeyed : List (ℕ × (Raw → Bool)) → Trees → Bool
has_unkeyed tables db = list_any (λ t. list_any (λ r. not (t.1 r)) (db t.0)) tables

-- What stands at a key. A row that has no key of its table stands at the odd keys.
abbrev pub row_in : Trees → Key → Option Row
row_in db (AccountKey number) = told AccountRow (row_at accounts db number)
row_in db (MemberKey group account) = told (λ u. MemberRow) (row_at members db (record { group = group; account = account }))
row_in db (FileKey project) = told FileRow (row_at projects db project)
row_in db (BaseKey project branch place) = told BaseRow (row_at bases db (record { project = project; branch = branch; place = place }))
row_in db (PartKey n part) = part_in db n part
row_in db (OddKey o) = if has_unkeyed keyed_tables db then Some OddRow else None

-- the least open epoch that the one row of the epochs says; 0 where it says none
abbrev pub least_in : Option (Option ℕ) → ℕ
least_in None = 0
least_in (Some None) = 0
least_in (Some (Some least)) = least

abbrev pub count_in : Trees → Count → ℕ
count_in db Projects = length (db projects.tree)
count_in db (BasesOf project) = length (rows_at ((1, Text project) ∷ []) (db bases.tree))
count_in db ClosedEpochs = least_in (row_at epochs db tt)

-- a stored request as tables tell it
abbrev pub stored_as : Identity → Option (Option Rest) → Option Stored
stored_as i None = None
stored_as i (Some None) = Some OddAnswer
stored_as i (Some (Some a)) = Some (Answered (record { identity = i; request = a.request; content = a.content; reply = a.reply }))

abbrev pub answer_in : Trees → Identity → Option Stored
answer_in db i = stored_as i (row_at answers db (request_key i))

-- a number of the one row; 0, which no desk has as a version, where there is none
abbrev pub number_of : (DeskRow → ℕ) → Option (Option DeskRow) → ℕ
number_of number None = 0
number_of number (Some None) = 0
number_of number (Some (Some d)) = number d

-- the version that the row of the desk says; 0 where the row of the epochs says no least open one
abbrev pub version_in : Option (Option ℕ) → Option (Option DeskRow) → ℕ
version_in (Some (Some least)) said = number_of (λ d. d.version) said
version_in _ said = 0

abbrev pub tables_at : Trees → Tables
tables_at db = record {
  row = row_in db;
  count = count_in db;
  answer = answer_in db;
  version = version_in (row_at epochs db tt) (row_at desk db tt);
  requests = number_of (λ d. d.requests) (row_at desk db tt);
}

-- The row of the desk says version 3 and so many requests, and that of the epochs which is the least open one.
pub record SaysDesk (requests least : ℕ) (db : Trees) : Type 0 where
  pub desk_is : row_at desk db tt ≡ Some (Some (record { version = tables_version; requests = requests }))
  pub least_is : row_at epochs db tt ≡ Some (Some least)

-- ---- the tables of an earlier version

-- the files of the projects as a version keeps them
abbrev pub projects_in : EarlierVersion → Search (List ℕ) StoredFile
projects_in earlier.First = first_projects
projects_in earlier.Second = projects

-- the tables of records of a version, and which of their rows have a key
abbrev pub keyed_tables_in : EarlierVersion → List (ℕ × (Raw → Bool))
keyed_tables_in version = keyed_with ((projects_in version).tree, (projects_in version).keyed) (earlier_answers.tree, earlier_answers.keyed)

-- What stands at a key: in version 1 no project has a parent, and all else is as in version 3.
abbrev pub earlier_row_in : EarlierVersion → Trees → Key → Option Row
earlier_row_in version db (FileKey project) = told FileRow (row_at (projects_in version) db project)
earlier_row_in version db (OddKey o) = if has_unkeyed (keyed_tables_in version) db then Some OddRow else None
earlier_row_in version db key = row_in db key

abbrev pub earlier_count_in : EarlierVersion → Trees → Count → ℕ
earlier_count_in version db Projects = length (db (projects_in version).tree)
earlier_count_in version db ClosedEpochs = 0
earlier_count_in version db count = count_in db count

-- a stored request, which is of the first epoch
abbrev pub earlier_answer_in : Trees → Identity → Option Stored
earlier_answer_in db i = if i.epoch == first_epoch then stored_as i (row_at earlier_answers db (earlier_key i.caller i.id)) else None

abbrev pub tables_in : EarlierVersion → Trees → Tables
tables_in version db = record (tables_at db) { row = earlier_row_in version db; count = earlier_count_in version db; answer = earlier_answer_in db; version = number_of (λ d. d.version) (row_at desk db tt) }

-- the row of the desk says this version and so many requests
abbrev pub IsEarlierDesk : EarlierVersion → ℕ → Trees → Type 0
IsEarlierDesk version requests db = row_at desk db tt ≡ Some (Some (record { version = version_number (version_of version); requests = requests }))
