-- The desk that tables in memory hold.
use Rattle.std.specs.{BTreeMap.is_at, Cmp.Lexicographic.slice_cmp, List.All, List.Contains}
use Rattle.std.specs.Ordering.{nat_cmp, ordering_then}
use Rattle.std.specs.Prelude.{ℕ, ◌≡◌, ◌≤◌, ◌+◌, ◌⊎◌, Bool, true, false, List, [], ◌∷◌, Option, Some, None, IfSome, option_map, string_bytes, if◌then◌else◌}
use Rattle.std.specs.declared.cmp.Ordering.{Ordering}
use Rattle.review_table.specs.Rows.{row_in, rows_of, row_edit_of, is_named, HasEmptyOnly, HasNoEmptyPlace, HavePlaces, changed}
use Rattle.{review_table.specs.declared.table.RowEdit.RowEdit, review_words.specs.History.Identity}
use Rattle.review_machine_rows.specs.Rows.{Key, AccountKey, MemberKey, FileKey, BaseKey, PartKey, OddKey, Row, AccountRow, FileRow, BaseRow, APart, Count, Projects, BasesOf, ClosedEpochs, AnswerRow, Stored, Answered, Tables, member_cmp, member_row, kept_row}
use Rattle.review_machine_rows.specs.View.{tables_version}
use Rattle.review_machine_rows.specs.declared.rows.{Delta.Delta, Kept.Kept, MemberKey.MemberKey as Member}
use Rattle.review_machine_rows.specs.declared.rows.{PlaceKey.PlaceKey, Put.Put, StoredFile.StoredFile}
use Rattle.review_machine_change_rows.specs.declared.tables.ChangeTables.{ChangeTables}
use Rattle.review_memory_rows.specs.Answers.{answer_cmp, key_of}
use Rattle.review_memory_rows.specs.Bases.{BranchesView, IsPut, base_at, total_in}
use Rattle.review_memory_rows.specs.Kept.{HasRoomFor, IsFull, IsFullBut, made, part_at}
use Rattle.review_memory_rows.specs.declared.answer_keys.{AnswerKey.AnswerKey, StoredAnswer.StoredAnswer}
use Rattle.review_memory.specs.declared.{changes.Changes.Changes, keys.NameKey.NameKey}
use Rattle.review_memory.specs.declared.tables.MemoryTables.{MemoryTables}

-- by name, then by number
abbrev pub name_cmp : NameKey → NameKey → Ordering
name_cmp a b = ordering_then (slice_cmp nat_cmp a.name b.name) (nat_cmp a.account b.account)

-- the rows of the tables, without the index
pub record Desk : Type 0 where
  pub accounts : List (ℕ × List ℕ)
  pub members : List (Member × Unit {0})
  pub files : List (List ℕ × StoredFile)
  pub branches : BranchesView
  pub changes : List (ℕ × ChangeTables)
  pub projects : ℕ
  pub answers : List (AnswerKey × StoredAnswer)
  pub least : ℕ
  pub requests : ℕ

-- what a desk in memory holds, table by table
abbrev pub desk_of : MemoryTables → Desk
desk_of t = record {
  accounts = rows_of t.accounts;
  members = rows_of t.members;
  files = rows_of t.files;
  branches = t.branches;
  changes = rows_of t.changes.kept;
  projects = t.projects;
  answers = rows_of t.answers;
  least = t.least;
  requests = t.requests;
}

-- a stored request with its identity, as a row
abbrev pub stored_row : Identity → Option StoredAnswer → Option AnswerRow
stored_row i None = None
stored_row i (Some s) = Some (record { identity = i; request = s.request; content = string_bytes s.content; reply = string_bytes s.reply })

-- the row of a project's file, among rows
abbrev pub file_row : List (List ℕ × StoredFile) → List ℕ → Option Row
file_row files project = option_map FileRow (row_in (slice_cmp nat_cmp) files project)

-- the row of a key
abbrev pub row_of : Desk → Key → Option Row
row_of d (AccountKey number) = option_map AccountRow (row_in nat_cmp d.accounts number)
row_of d (MemberKey group account) = member_row (row_in member_cmp d.members (record { group = group; account = account }))
row_of d (FileKey project) = file_row d.files project
row_of d (BaseKey project branch place) = option_map BaseRow (base_at d.branches.bases project branch place)
row_of d (PartKey n part) = option_map APart (part_at d.changes n part)
row_of d (OddKey o) = None

-- a count
abbrev pub count_of : Desk → Count → ℕ
count_of d Projects = d.projects
count_of d (BasesOf project) = total_in d.branches.totals project
count_of d ClosedEpochs = d.least

-- the same tables but for those of branches and what is stored of requests
abbrev pub with_stored : MemoryTables → BranchesView → List (AnswerKey × Option StoredAnswer) → MemoryTables
with_stored t branches answers = record t { branches = branches; answers = answers }

-- the same desk but for branches and what is stored of requests
abbrev pub desk_with : Desk → BranchesView → List (AnswerKey × StoredAnswer) → Desk
desk_with d branches answers = record d { branches = branches; answers = answers }

-- the same tables but for what is stored of requests, and the least open epoch
abbrev pub with_answers : MemoryTables → List (AnswerKey × Option StoredAnswer) → ℕ → MemoryTables
with_answers t answers least = record t { answers = answers; least = least }

-- a delta but for the epoch that it names
abbrev pub beside_epoch : Delta → Delta
beside_epoch delta = record delta { least_epoch = None }

-- the stored request of an identity
abbrev pub answer_of : List (AnswerKey × StoredAnswer) → Identity → Option Stored
answer_of answers i = option_map Answered (stored_row i (row_in answer_cmp answers (key_of i)))

-- a desk as the tables that contracts see
abbrev pub tables_of : Desk → Tables
tables_of d = record { row = row_of d; count = count_of d; answer = answer_of d.answers; version = tables_version; requests = d.requests }

-- a number of an account
abbrev pub IsNumber : ℕ → Type 0
IsNumber n = (1 ≤ n) × (n ≤ 1000000)

-- each account is in the index under its name
abbrev pub IsIndexed : List (ℕ × List ℕ) → List (NameKey × Unit {0}) → Type 0
IsIndexed accounts names = (number : ℕ) (name : List ℕ) → row_in nat_cmp accounts number ≡ Some name → IsNumber number × (row_in name_cmp names (record { name = name; account = number }) ≡ Some tt)

-- each name in the index is that of its account
abbrev pub AreInUse : List (ℕ × List ℕ) → List (NameKey × Unit {0}) → Type 0
AreInUse accounts names = (k : NameKey) → row_in name_cmp names k ≡ Some tt → row_in nat_cmp accounts k.account ≡ Some k.name

-- each member is an account by its number
abbrev pub IsNumbered : List (Member × Unit {0}) → Type 0
IsNumbered members = (k : Member) → row_in member_cmp members k ≡ Some tt → IsNumber k.account

-- there are no more projects, and no more bases of a project, than there were requests
pub record IsBounded (d : Desk) : Type 0 where
  pub projects : d.projects ≤ d.requests
  pub bases : (p : List ℕ) → total_in d.branches.totals p ≤ d.requests

-- every place of the tables has a row
pub record HasNoSpareRoom (t : MemoryTables) : Type 0 where
  pub accounts : HasNoEmptyPlace nat_cmp t.accounts
  pub names : HasNoEmptyPlace name_cmp t.names
  pub members : HasNoEmptyPlace member_cmp t.members
  pub files : HasNoEmptyPlace (slice_cmp nat_cmp) t.files
  pub changes : IsFull t.changes
  pub answers : HasNoEmptyPlace answer_cmp t.answers

-- what holds of the tables between any two calls
pub record IsSound (t : MemoryTables) : Type 0 where
  pub indexed : IsIndexed (rows_of t.accounts) (rows_of t.names)
  pub in_use : AreInUse (rows_of t.accounts) (rows_of t.names)
  pub numbered : IsNumbered (rows_of t.members)
  pub bounded : IsBounded (desk_of t)
  pub filled : HasNoSpareRoom t

-- the name that an account had is listed
abbrev pub IsHeld : List (ℕ × List ℕ) → List NameKey → RowEdit ℕ (List ℕ) → Type 0
IsHeld accounts names c = IfSome (row_in nat_cmp accounts c.key) (λ name. Contains names (record { name = name; account = c.key }))

-- the name that an account gets is listed
abbrev pub IsGiven : List NameKey → RowEdit ℕ (List ℕ) → Type 0
IsGiven names c = IsNumber c.key × IfSome c.row (λ name. Contains names (record { name = name; account = c.key }))

-- an account gets the name
abbrev pub IsNameOf : List (RowEdit ℕ (List ℕ)) → NameKey → Type 0
IsNameOf changes k = Contains changes (record { key = k.account; row = Some k.name })

-- accounts have what changes gave them
abbrev pub HasChanged : List (RowEdit ℕ (List ℕ)) → List (ℕ × List ℕ) → Type 0
HasChanged changes accounts = (n : ℕ) → (was : Option (List ℕ)) × (row_in nat_cmp accounts n ≡ changed nat_cmp changes n was)

-- a name of the index is that of its account
abbrev pub IsUsed : List (ℕ × List ℕ) → List (NameKey × Unit {0}) → NameKey → Type 0
IsUsed accounts names k = row_in name_cmp names k ≡ Some tt → row_in nat_cmp accounts k.account ≡ Some k.name

-- the answer is that of a stored request, under its identity
pub record PutsAnswer (kept : Kept) (answer : Put AnswerKey StoredAnswer) : Type 0 where
  pub key : answer.key ≡ key_of (kept_row kept).identity
  pub row : stored_row (kept_row kept).identity (Some answer.row) ≡ Some (kept_row kept)

-- the change of a project's file
abbrev pub file_changes : Option (Put (List ℕ) StoredFile) → List (RowEdit (List ℕ) StoredFile)
file_changes None = []
file_changes (Some put) = record { key = put.key; row = Some put.row } ∷ []

-- the changes are those of these accounts, members and file
pub record AreChanges (given : List (RowEdit ℕ (List ℕ))) (grouped : List (RowEdit Member (Unit {0}))) (file : Option (Put (List ℕ) StoredFile)) (changes : Changes) : Type 0 where
  pub accounts : changes.accounts.items ≡ given
  pub members : changes.members.items ≡ grouped
  pub files : changes.files.items ≡ file_changes file
  pub numbered : All (λ c. IsNumber c.key.account) grouped

-- the changes are those of the delta
abbrev pub AreChangesOf : Delta → Changes → Type 0
AreChangesOf delta changes = AreChanges delta.accounts.items delta.members.items delta.file changes

-- each name of a list is in the index
abbrev pub AreIndexed : List (NameKey × Unit {0}) → List NameKey → Type 0
AreIndexed names keys = All (λ k. row_in name_cmp names k ≡ Some tt) keys

-- the index loses no name
abbrev pub KeepsNames : List (NameKey × Unit {0}) → List (NameKey × Unit {0}) → Type 0
KeepsNames old new = (k : NameKey) → row_in name_cmp old k ≡ Some tt → row_in name_cmp new k ≡ Some tt

-- the index has no names but those that it had, and these
abbrev pub AddsNames : List (NameKey × Unit {0}) → List NameKey → List (NameKey × Unit {0}) → Type 0
AddsNames old keys new = (k : NameKey) → row_in name_cmp new k ≡ Some tt → (row_in name_cmp old k ≡ Some tt) ⊎ Contains keys k

-- there is a place for each row that changes
pub record HasRoom (t : MemoryTables) (changes : Changes) : Type 0 where
  pub accounts : HavePlaces nat_cmp t.accounts changes.accounts.items
  pub members : HavePlaces member_cmp t.members changes.members.items
  pub files : HavePlaces (slice_cmp nat_cmp) t.files changes.files.items
  pub edits : HasRoomFor changes.edits t.changes

-- every place has a row, but for those that changes name
pub record HasRoomOnlyFor (changes : Changes) (t : MemoryTables) : Type 0 where
  pub accounts : HasEmptyOnly nat_cmp (is_named nat_cmp changes.accounts.items) t.accounts
  pub names : HasNoEmptyPlace name_cmp t.names
  pub members : HasEmptyOnly member_cmp (is_named member_cmp changes.members.items) t.members
  pub files : HasEmptyOnly (slice_cmp nat_cmp) (is_named (slice_cmp nat_cmp) changes.files.items) t.files
  pub edits : IsFullBut changes.edits t.changes
  pub answers : HasNoEmptyPlace answer_cmp t.answers

-- whether a row is taken away
abbrev pub is_taken : {X : Type 0} → Option (Option X) → Bool
is_taken None = false
is_taken (Some None) = true
is_taken (Some (Some row)) = false

-- whether the change of a key takes its row away
abbrev pub is_removed : {K X : Type 0} → (K → K → Ordering) → List (RowEdit K X) → K → Bool
is_removed cmp changes q = is_taken (row_edit_of cmp changes q)

-- every place has a row, but for those whose rows changes take away
pub record HasRemovedOnly (changes : Changes) (t : MemoryTables) : Type 0 where
  pub accounts : HasEmptyOnly nat_cmp (is_removed nat_cmp changes.accounts.items) t.accounts
  pub names : HasNoEmptyPlace name_cmp t.names
  pub members : HasEmptyOnly member_cmp (is_removed member_cmp changes.members.items) t.members
  pub files : HasEmptyOnly (slice_cmp nat_cmp) (is_removed (slice_cmp nat_cmp) changes.files.items) t.files
  pub edits : IsFull t.changes
  pub answers : HasNoEmptyPlace answer_cmp t.answers

-- a base was put, where there is one to put
abbrev pub IsWithBase : Option (Put PlaceKey (List ℕ)) → BranchesView → BranchesView → Type 0
IsWithBase None old new = new ≡ old
IsWithBase (Some base) old new = IsPut base old new

-- an answer is stored under its identity
abbrev pub IsStored : Put AnswerKey StoredAnswer → List (AnswerKey × StoredAnswer) → List (AnswerKey × StoredAnswer) → Type 0
IsStored answer old new = (k : AnswerKey) → row_in answer_cmp new k ≡ (if is_at (answer_cmp answer.key) k then Some answer.row else row_in answer_cmp old k)

-- all rows are changed but those of branches and of stored requests, and so many projects are there
pub record AreApplied (old : Desk) (changes : Changes) (projects : ℕ) (new : Desk) : Type 0 where
  pub accounts : (k : ℕ) → row_in nat_cmp new.accounts k ≡ changed nat_cmp changes.accounts.items k (row_in nat_cmp old.accounts k)
  pub members : (k : Member) → row_in member_cmp new.members k ≡ changed member_cmp changes.members.items k (row_in member_cmp old.members k)
  pub files : (k : List ℕ) → row_in (slice_cmp nat_cmp) new.files k ≡ changed (slice_cmp nat_cmp) changes.files.items k (row_in (slice_cmp nat_cmp) old.files k)
  pub edits : (k : ℕ) → row_in nat_cmp new.changes k ≡ made changes.edits k (row_in nat_cmp old.changes k)
  pub projects_are : new.projects ≡ projects
  pub least : new.least ≡ old.least
  pub requests : new.requests ≡ old.requests + 1
