-- Rows of all tables as one type, read at a key: what tables hold, and what a delta changes.
use Rattle.std.specs.{BTreeMap.is_at, Cmp.Lexicographic.slice_cmp, Ordering.nat_cmp, Ordering.ordering_then}
use Rattle.std.specs.Prelude.{ℕ, ℤ, ◌+◌, ◌≡◌, List, [], ◌∷◌, Option, Some, None, Bool, true, ◌==◌, is_some, option_map, if◌then◌else◌, string_bytes, false, nat_lt, unwrap_or}
use Rattle.std.specs.{Str.bytes_eq, declared.cmp.Ordering.Ordering}
use Rattle.review_table.specs.Rows.{row_edit_of, after_row_edit}
use Rattle.review_words.specs.History.{Identity}
use Rattle.review_words.specs.declared.command.Command.{Command, TheVariants.CloseEpoch}
use Rattle.review_words.specs.declared.reply.Reply.{Reply, TheVariants.Refused}
use Rattle.review_core_rules.specs.Parts.{Part, TheHeader, PatchOf, VoteOf, RoleOf, CommentOf, AttentionOf, PartRow, AHeader, APatch, AVote, ARole, AComment, AnAttentionEntry}
use Rattle.review_core_rules.specs.{Seen.vote_cmp, Votes.voted}
use Rattle.review_machine_rows.specs.declared.rows.{Base.Base, BranchKey.BranchKey as Branch, ChangeEdit.ChangeEdit}
use Rattle.review_machine_rows.specs.declared.rows.{Delta.Delta, Kept.Kept, MemberKey.MemberKey as Member}
use Rattle.review_machine_rows.specs.declared.rows.{PlaceKey.PlaceKey, Put.Put, StoredFile.StoredFile}

-- the key of a row in any table; an odd one is the key of a stored row that has no key of its table
pub data Key : Type 0 where
  AccountKey : ℕ → Key
  MemberKey : List ℕ → ℕ → Key
  FileKey : List ℕ → Key
  BaseKey : List ℕ → List ℕ → ℕ → Key
  PartKey : ℕ → Part → Key
  OddKey : List ℕ → Key

-- the rest of a row: an account's name, the text of a project's file with its parent, the commit of a base, the rest of a row of a change; a member has no more than its key, and an odd row is none of its table
pub data Row : Type 0 where
  AccountRow : List ℕ → Row
  MemberRow : Row
  FileRow : StoredFile → Row
  BaseRow : List ℕ → Row
  APart : PartRow → Row
  OddRow : Row

-- what is counted: the projects, the bases of a project over all its branches, and the closed epochs, whose count is the least open one
pub data Count : Type 0 where
  Projects : Count
  BasesOf : List ℕ → Count
  ClosedEpochs : Count

-- a stored request with its texts
pub record AnswerRow : Type 0 where
  pub identity : Identity
  pub request : ℕ
  pub content : List ℕ
  pub reply : List ℕ

-- what is stored of a request; an odd one is none
pub data Stored : Type 0 where
  Answered : AnswerRow → Stored
  OddAnswer : Stored

-- All tables of a desk: the row at a key, how many rows of a kind there are and which epoch is the least open one, what is stored under an identity, the version of the tables, and how many requests were ever
-- stored, those that were given up among them.
pub record Tables : Type 0 where
  pub row : Key → Option Row
  pub count : Count → ℕ
  pub answer : Identity → Option Stored
  pub version : ℕ
  pub requests : ℕ

-- by group, then by account
abbrev pub member_cmp : Member → Member → Ordering
member_cmp a b = ordering_then (slice_cmp nat_cmp a.group b.group) (nat_cmp a.account b.account)

-- by project, then by branch
abbrev pub branch_cmp : Branch → Branch → Ordering
branch_cmp a b = ordering_then (slice_cmp nat_cmp a.project b.project) (slice_cmp nat_cmp a.branch b.branch)

-- by project, then by branch, then by commit
abbrev pub base_cmp : Base → Base → Ordering
base_cmp a b = ordering_then (slice_cmp nat_cmp a.project b.project) (ordering_then (slice_cmp nat_cmp a.branch b.branch) (slice_cmp nat_cmp a.commit b.commit))

-- by project, then by branch, then by place
abbrev pub place_cmp : PlaceKey → PlaceKey → Ordering
place_cmp a b = ordering_then (slice_cmp nat_cmp a.project b.project) (ordering_then (slice_cmp nat_cmp a.branch b.branch) (nat_cmp a.place b.place))

-- the row of a member that is there
abbrev pub member_row : Option (Unit {0}) → Option Row
member_row None = None
member_row (Some u) = Some MemberRow

-- the change of a member's row
abbrev pub member_change : Option (Option (Unit {0})) → Option (Option Row)
member_change None = None
member_change (Some r) = Some (member_row r)

-- the change of an account's row
abbrev pub account_change : Option (Option (List ℕ)) → Option (Option Row)
account_change None = None
account_change (Some r) = Some (option_map AccountRow r)

-- the row of a key after a row may have been put, where it was this one before
abbrev pub after_put : {K X : Type 0} → (K → K → Ordering) → (X → Row) → Option (Put K X) → K → Option Row → Option Row
after_put cmp kind None q was = was
after_put cmp kind (Some put) q was = if is_at (cmp put.key) q then Some (kind put.row) else was

-- the row of a vote; a value of 0 is none
abbrev pub vote_row : Option ℤ → Option PartRow
vote_row None = None
vote_row (Some v) = if voted v then Some (AVote v) else None

-- what an edit makes of a row of its change: none where it leaves it, and otherwise the new row or that there is none any more
abbrev pub part_change : ChangeEdit → Part → Option (Option PartRow)
part_change e TheHeader = Some (Some (AHeader e.header))
part_change e (PatchOf n) = option_map (option_map APatch) (row_edit_of nat_cmp e.patches.items n)
part_change e (VoteOf n l a) = option_map vote_row (row_edit_of vote_cmp e.votes.items (record { patch = n; label = l; account = a }))
part_change e (RoleOf u) = option_map (option_map ARole) (row_edit_of nat_cmp e.roles.items u)
part_change e (CommentOf k) = option_map (option_map AComment) (row_edit_of nat_cmp e.comments.items k)
part_change e (AttentionOf u) = option_map (option_map AnAttentionEntry) (row_edit_of nat_cmp e.attention.items u)

-- what edits make of a row of a change: the first edit of the change decides
abbrev pub edited : List ChangeEdit → ℕ → Part → Option (Option PartRow)
edited [] n part = None
edited (e ∷ es) n part = if e.change == n then part_change e part else edited es n part

-- the row of a key after a delta, where it was this one before
abbrev pub after : Delta → Key → Option Row → Option Row
after delta (AccountKey number) was = after_row_edit (account_change (row_edit_of nat_cmp delta.accounts.items number)) was
after delta (MemberKey group account) was = after_row_edit (member_change (row_edit_of member_cmp delta.members.items (record { group = group; account = account }))) was
after delta (FileKey project) was = after_put (slice_cmp nat_cmp) FileRow delta.file project was
after delta (BaseKey project branch place) was = after_put place_cmp BaseRow delta.base (record { project = project; branch = branch; place = place }) was
after delta (PartKey n part) was = after_row_edit (option_map (option_map APart) (edited delta.changes.items n part)) was
after delta (OddKey o) was = was

-- one row more of those whose keys pass a test, where one is put whose key had none
abbrev pub count_put : {K X : Type 0} → (K → Bool) → Option (Put K X) → (K → Option Row) → ℕ → ℕ
count_put test None row n = n
count_put test (Some put) row n = if test put.key then (if is_some (row put.key) then n else n + 1) else n

-- a count after a delta, where the rows were these and the count this one before
abbrev pub count_after : Delta → (Key → Option Row) → Count → ℕ → ℕ
count_after delta row Projects n = count_put (λ p. true) delta.file (λ p. row (FileKey p)) n
count_after delta row (BasesOf project) n = count_put (λ k. bytes_eq k.project project) delta.base (λ k. row (BaseKey k.project k.branch k.place)) n
count_after delta row ClosedEpochs n = unwrap_or delta.least_epoch n

-- whether an epoch is named, and this one is below it
abbrev pub is_below : Option ℕ → ℕ → Bool
is_below None epoch = false
is_below (Some least) epoch = nat_lt epoch least

-- whether the epoch that is named is above this one, or none is named
abbrev pub is_above : Option ℕ → ℕ → Bool
is_above None epoch = true
is_above (Some least) epoch = nat_lt epoch least

-- the epoch that an accepted command makes the least open one
abbrev pub new_least : Option Command → Option ℕ
new_least (Some (CloseEpoch least)) = Some least
new_least _ = None

-- no row and no count is changed, whatever they were, and no kept answer is given up
pub record ChangesNothing (delta : Delta) : Type 0 where
  pub answers : delta.least_epoch ≡ None
  pub rows : (k : Key) (was : Option Row) → after delta k was ≡ was
  pub counts : (row : Key → Option Row) (c : Count) (n : ℕ) → count_after delta row c n ≡ n

-- a refusal changes nothing
abbrev pub HasNoEffect : Reply → Delta → Type 0
HasNoEffect (Refused r) delta = ChangesNothing delta
HasNoEffect _ delta = Unit {0}

-- a stored request as the tables hold it
abbrev pub kept_row : Kept → AnswerRow
kept_row k = record { identity = record { caller = k.caller; epoch = k.epoch; id = k.id }; request = k.request; content = string_bytes k.content; reply = string_bytes k.reply }
