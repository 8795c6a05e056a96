-- The tables that are not of changes: how their rows are looked up and stored.
use Rattle.std.specs.Prelude.{ℕ, ◌&&◌, Bool, Option, Some, None, is_some, nat_lt, if◌then◌else◌, nat_le, string_bytes, pos, List, [], ◌∷◌, option_map}
use Rattle.{std.specs.Str.is_utf8, sqlite_value.specs.Order.Row, sqlite_value.specs.Order.column}
use Rattle.sqlite_value.specs.declared.value.Value.{Value, TheVariants.Int, TheVariants.Text}
use Rattle.review_names.specs.{Forms.is_commit, Forms.is_slashed_name, Names.is_account_number, Names.is_word}
use Rattle.review_words.specs.{Epochs.is_epoch, History.Identity}
use Rattle.review_sql_tables.specs.Content.{is_number_below, is_natural, is_text}
use Rattle.review_sql_tables.specs.Search.{number_in, text_in, Search, Form, with_rowid, with_number}
use Rattle.review_machine_rows.specs.declared.rows.{Base.Base, BranchKey.BranchKey, Kept.Kept, MemberKey.MemberKey}
use Rattle.review_machine_rows.specs.declared.rows.{PlaceKey.PlaceKey, StoredFile.StoredFile}
use Rattle.review_sql_records.specs.declared.rows.{Answered.Answered, DeskRow.DeskRow, RequestKey.RequestKey}
pub use Rattle.review_sql_tables.specs.Content.{is_natural, is_text}
use Rattle.review_sql_tables.specs.Desk as table
pub use Rattle.std.specs.Option.{option_zip as both}

-- ---- which stored rows have a key of their table: those whose columns of the key have values of their kinds

-- a number below 2^32
abbrev pub is_small : ℕ → Bool
is_small n = nat_lt n 4294967296

-- a value that passes a test
abbrev pub where_is : {X : Type 0} → (X → Bool) → Option X → Option X
where_is test None = None
where_is test (Some x) = if test x then Some x else None

-- whether a value is a number that passes a test
abbrev pub is_number : (ℕ → Bool) → Value → Bool
is_number test v = is_some (where_is test (number_in v))

abbrev pub account_keyed : Row → Bool
account_keyed r = is_number is_account_number (column r 0)

abbrev pub member_keyed : Row → Bool
member_keyed r = is_text (column r 1) && is_number is_account_number (column r 2)

abbrev pub project_keyed : Row → Bool
project_keyed r = is_text (column r 1)

abbrev pub base_keyed : Row → Bool
base_keyed r = is_text (column r 1) && (is_text (column r 2) && is_number is_small (column r 3))

-- A stored request has one where it is of some identity that a history may hold, in which nothing is asked of the forms of callers, epochs and ids.
abbrev pub answer_keyed : Row → Bool
answer_keyed r = is_natural (column r 1) && (is_natural (column r 2) && is_text (column r 3))

-- the same in versions 1 and 2, where identities have no epoch
abbrev pub earlier_answer_keyed : Row → Bool
earlier_answer_keyed r = is_natural (column r 1) && is_text (column r 2)

-- ---- accounts

-- the name of an account, by its number
abbrev pub accounts : Search ℕ (List ℕ)
accounts = record { tree = table.accounts.tree; keyed = account_keyed; at = λ number. (0, Int (pos number)) ∷ []; columns = 2 ∷ []; read = λ r. where_is is_word (text_in (column r 0)) }

abbrev pub account_form : Form ℕ (List ℕ)
account_form = with_number (λ number name. Int (pos number) ∷ Text name ∷ []) is_account_number (λ name. is_utf8 name && is_word name)

-- the number of an account, by its name
abbrev pub account_names : Search (List ℕ) ℕ
account_names = record { tree = table.accounts.tree; keyed = account_keyed; at = λ name. (2, Text name) ∷ []; columns = 0 ∷ []; read = λ r. where_is is_account_number (number_in (column r 0)) }

-- the numbers of accounts
abbrev pub account_numbers : Search (Unit {0}) ℕ
account_numbers = record { tree = table.accounts.tree; keyed = account_keyed; at = λ u. []; columns = 0 ∷ []; read = λ r. number_in (column r 0) }

-- ---- members

-- a member has no more than its key
abbrev pub members : Search MemberKey (Unit {0})
members = record { tree = table.members.tree; keyed = member_keyed; at = λ m. (1, Text m.group) ∷ (2, Int (pos m.account)) ∷ []; columns = 2 ∷ []; read = λ r. Some tt }

abbrev pub member_form : Form MemberKey (Unit {0})
member_form = with_rowid (λ m row. Text m.group ∷ Int (pos m.account) ∷ []) (λ m. is_account_number m.account) (λ row. Rattle.std.specs.Prelude.true)

-- the same, with the account as the rest of a key that begins with the group
abbrev pub member_parts : Search (List ℕ × ℕ) (Unit {0})
member_parts = record { tree = table.members.tree; keyed = member_keyed; at = λ p. members.at (record { group = p.0; account = p.1 }); columns = members.columns; read = members.read }

-- the rest of a key, with a row that has no more
abbrev pub alone : Option ℕ → Option (ℕ × Unit {0})
alone None = None
alone (Some n) = Some (n, tt)

-- the members of a group
abbrev pub group_members : Search (List ℕ) (ℕ × Unit {0})
group_members = record { tree = table.members.tree; keyed = member_keyed; at = λ group. (1, Text group) ∷ []; columns = 2 ∷ []; read = λ r. alone (where_is is_account_number (number_in (column r 0))) }

-- ---- projects

-- the file of a project that has no parent
abbrev pub file_without_parent : List ℕ → StoredFile
file_without_parent text = record { text = text; parent = None }

-- the parent that a column tells: none where it is empty; a text that is no name of a project doesn't read
abbrev pub stored_parent : Option (List ℕ) → Option (Option (List ℕ))
stored_parent None = None
stored_parent (Some []) = Some None
stored_parent (Some (b ∷ name)) = option_map Some (where_is is_slashed_name (Some (b ∷ name)))

-- the file of a project, where its parts are there
abbrev pub stored_file : Option (List ℕ) → Option (Option (List ℕ)) → Option StoredFile
stored_file (Some text) (Some parent) = Some (record { text = text; parent = parent })
stored_file _ _ = None

-- the file of a project
abbrev pub projects : Search (List ℕ) StoredFile
projects = record {
  tree = table.projects_2.tree;
  keyed = project_keyed;
  at = λ project. (1, Text project) ∷ [];
  columns = 2 ∷ 3 ∷ [];
  read = λ r. stored_file (text_in (column r 0)) (stored_parent (text_in (column r 1)));
}

-- a parent as it is stored: the empty text for none
abbrev pub parent_text : Option (List ℕ) → List ℕ
parent_text None = []
parent_text (Some name) = name

-- whether a parent, where there is one, has the form of a project's name
abbrev pub is_parent : Option (List ℕ) → Bool
is_parent None = Rattle.std.specs.Prelude.true
is_parent (Some name) = is_utf8 name && is_slashed_name name

abbrev pub project_form : Form (List ℕ) StoredFile
project_form = with_rowid (λ project file. Text project ∷ Text file.text ∷ Text (parent_text file.parent) ∷ []) (λ project. Rattle.std.specs.Prelude.true) (λ file. is_utf8 file.text && is_parent file.parent)

-- whether a project is there, without its file
abbrev pub project_names : Search (List ℕ) (Unit {0})
project_names = record { tree = table.projects_2.tree; keyed = project_keyed; at = λ project. (1, Text project) ∷ []; columns = 1 ∷ []; read = λ r. Some tt }

-- the file of a project as version 1 keeps it, where no project has a parent
abbrev pub first_projects : Search (List ℕ) StoredFile
first_projects = record { tree = table.projects_1.tree; keyed = project_keyed; at = λ project. (1, Text project) ∷ []; columns = 2 ∷ []; read = λ r. option_map file_without_parent (text_in (column r 0)) }

-- ---- bases

-- the commit of a base, by its place
abbrev pub bases : Search PlaceKey (List ℕ)
bases = record {
  tree = table.bases.tree;
  keyed = base_keyed;
  at = λ b. (1, Text b.project) ∷ (2, Text b.branch) ∷ (3, Int (pos b.place)) ∷ [];
  columns = 4 ∷ [];
  read = λ r. where_is is_commit (text_in (column r 0));
}

abbrev pub base_form : Form PlaceKey (List ℕ)
base_form = with_rowid (λ b commit. Text b.project ∷ Text b.branch ∷ Int (pos b.place) ∷ Text commit ∷ []) (λ b. is_small b.place) (λ commit. is_utf8 commit && is_commit commit)

-- the places of a commit in a branch
abbrev pub base_commits : Search Base ℕ
base_commits = record {
  tree = table.bases.tree;
  keyed = base_keyed;
  at = λ b. (1, Text b.project) ∷ (2, Text b.branch) ∷ (4, Text b.commit) ∷ [];
  columns = 3 ∷ [];
  read = λ r. number_in (column r 0);
}

-- the commit of a base, with the place as the rest of a key that begins with the branch
abbrev pub base_parts : Search (BranchKey × ℕ) (List ℕ)
base_parts = record { tree = table.bases.tree; keyed = base_keyed; at = λ p. bases.at (record { project = p.0.project; branch = p.0.branch; place = p.1 }); columns = bases.columns; read = bases.read }

-- the bases of a branch
abbrev pub branch_bases : Search BranchKey (ℕ × List ℕ)
branch_bases = record {
  tree = table.bases.tree;
  keyed = base_keyed;
  at = λ b. (1, Text b.project) ∷ (2, Text b.branch) ∷ [];
  columns = 3 ∷ 4 ∷ [];
  read = λ r. both (where_is (nat_le 1) (number_in (column r 0))) (where_is is_commit (text_in (column r 1)));
}

-- the places of a branch's bases
abbrev pub base_places : Search BranchKey ℕ
base_places = record { tree = table.bases.tree; keyed = base_keyed; at = λ b. (1, Text b.project) ∷ (2, Text b.branch) ∷ []; columns = 3 ∷ []; read = λ r. number_in (column r 0) }

-- ---- stored requests

-- a stored request, where its parts are there
abbrev pub answered : Option ℕ → Option (List ℕ) → Option (List ℕ) → Option Answered
answered (Some request) (Some content) (Some reply) = Some (record { request = request; content = content; reply = reply })
answered _ _ _ = None

abbrev pub answers : Search RequestKey Answered
answers = record {
  tree = table.answers_3.tree;
  keyed = answer_keyed;
  at = λ i. (1, Int (pos i.caller)) ∷ (2, Int (pos i.epoch)) ∷ (3, Text i.id) ∷ [];
  columns = 4 ∷ 5 ∷ 6 ∷ [];
  read = λ r. answered (number_in (column r 0)) (text_in (column r 1)) (text_in (column r 2));
}

abbrev pub answer_form : Form RequestKey Answered
answer_form = with_rowid (λ i a. Int (pos i.caller) ∷ Int (pos i.epoch) ∷ Text i.id ∷ Int (pos a.request) ∷ Text a.content ∷ Text a.reply ∷ []) (λ i. is_account_number i.caller && is_epoch i.epoch) (λ a. is_utf8 a.content && is_utf8 a.reply)

-- whether a row is the stored request of an identity whose epoch is lower than this one
abbrev pub is_of_lower : ℕ → Row → Bool
is_of_lower least r = is_number_below least (column r 2) && (is_natural (column r 1) && is_text (column r 3))

-- the key of an identity
abbrev pub request_key : Identity → RequestKey
request_key i = record { caller = i.caller; epoch = i.epoch; id = i.id }

-- what is stored of a request beside its identity
abbrev pub kept_answer : Kept → Answered
kept_answer k = record { request = k.request; content = string_bytes k.content; reply = string_bytes k.reply }

-- the epoch of all requests of versions 1 and 2
abbrev pub first_epoch : ℕ
first_epoch = 0

-- the key of a request of these versions
abbrev pub earlier_key : ℕ → List ℕ → RequestKey
earlier_key caller id = record { caller = caller; epoch = first_epoch; id = id }

-- the stored requests as versions 1 and 2 keep them, whose identities have no epoch
abbrev pub earlier_answers : Search RequestKey Answered
earlier_answers = record {
  tree = table.answers_1.tree;
  keyed = earlier_answer_keyed;
  at = λ i. (1, Int (pos i.caller)) ∷ (2, Text i.id) ∷ [];
  columns = 3 ∷ 4 ∷ 5 ∷ [];
  read = λ r. answered (number_in (column r 0)) (text_in (column r 1)) (text_in (column r 2));
}

-- ---- the least open epoch

abbrev pub epochs : Search (Unit {0}) ℕ
epochs = record { tree = table.epochs.tree; keyed = λ r. Rattle.std.specs.Prelude.true; at = λ u. []; columns = 1 ∷ []; read = λ r. where_is is_epoch (number_in (column r 0)) }

abbrev pub epochs_form : Form (Unit {0}) ℕ
epochs_form = with_rowid (λ u least. Int (pos least) ∷ []) (λ u. Rattle.std.specs.Prelude.true) is_epoch

-- ---- the row of the desk

-- the row, where its parts are there
abbrev pub desk_row : Option ℕ → Option ℕ → Option DeskRow
desk_row (Some version) (Some requests) = Some (record { version = version; requests = requests })
desk_row _ _ = None

abbrev pub desk : Search (Unit {0}) DeskRow
desk = record { tree = table.desk.tree; keyed = λ r. Rattle.std.specs.Prelude.true; at = λ u. []; columns = 1 ∷ 2 ∷ []; read = λ r. desk_row (number_in (column r 0)) (number_in (column r 1)) }

abbrev pub desk_form : Form (Unit {0}) DeskRow
desk_form = with_rowid (λ u d. Int (pos d.version) ∷ Int (pos d.requests) ∷ []) (λ u. Rattle.std.specs.Prelude.true) (λ d. Rattle.std.specs.Prelude.true)
