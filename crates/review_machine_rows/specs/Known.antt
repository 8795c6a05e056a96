-- What a look-up finds in tables, and what rows know.
use Rattle.std.specs.{Cmp.Lexicographic.slice_cmp, List.All, List.Contains, Ordering.nat_cmp}
use Rattle.std.specs.Prelude.{ℕ, zero, suc, ◌<◌, ◌≡◌, ◌⊎◌, AllPairs, List, [], ◌∷◌, Option, Some, None, IsSome, Bool, true, false, is_some, nat_lt, option_map, if◌then◌else◌}
use Rattle.{std.specs.declared.cmp.Ordering.Ordering, review_table.specs.Rows.row_in, review_table.specs.Rows.rows_of}
use Rattle.review_words.specs.Epochs.{last_epoch}
use Rattle.review_words.specs.declared.shown.{JoinedChange.JoinedChange, State.TheVariants.Merged}
use Rattle.review_chain.specs.declared.links.Standing.{Standing}
use Rattle.review_chain.specs.declared.links.Standing.TheVariants.{InBranch, PatchSet, Nowhere}
use Rattle.review_core_rules.specs.Change.{Change}
use Rattle.review_core_rules.specs.Parts.{Part, TheHeader, PatchOf, PartRow, AHeader, APatch, part_row}
use Rattle.review_core_rules.specs.{Seen.seen, declared.rows.Header.Header, declared.rows.PatchRow.PatchRow}
use Rattle.review_machine_rows.specs.Limits.{most_projects, most_bases}
use Rattle.review_machine_rows.specs.Rows.{Key, AccountKey, MemberKey, FileKey, BaseKey, PartKey, APart, Row, AccountRow, MemberRow, FileRow, BaseRow, Count, Projects, BasesOf, ClosedEpochs, Tables, member_row}
use Rattle.review_machine_rows.specs.declared.rows.{Base.Base, BranchKey.BranchKey as Branch, Counted.Counted}
use Rattle.review_machine_rows.specs.declared.rows.{Found.Found as Kept, Rows.Rows, StoredFile.StoredFile, Want.Want}
use Rattle.review_machine_rows.specs.declared.rows.Counted.TheVariants as counted
use Rattle.review_machine_rows.specs.declared.rows.Want.TheVariants as want
use Rattle.review_machine_rows.specs.declared.rows.Found.TheVariants as kept
use Rattle.review_machine_rows.specs.contracts.rows.WantOrd.TheImpl as want_order

-- what a look-up finds, by its kind: a number, an account's name, the account or the change that was looked for, whether something is so, the members of a group, the file of a project with its parent, the bases of a branch, a change, what a commit is to a branch, the changes that joined a branch
pub data Found : Type 0 where
  Number : ℕ → Found
  Name : Option (List ℕ) → Found
  Holder : Option ℕ → Found
  IsSo : Bool → Found
  Members : List (ℕ × Unit {0}) → Found
  Text : Option StoredFile → Found
  Commits : List (List ℕ) → Found
  AChange : Option Change → Found
  Stands : Standing → Found
  Joins : List JoinedChange → Found

-- the account of a number has the name
abbrev pub IsNamed : (Key → Option Row) → List ℕ → ℕ → Type 0
IsNamed row name number = row (AccountKey number) ≡ Some (AccountRow name)

-- the account that has the name, or none where no account has it
abbrev pub IsFoundByName : (Key → Option Row) → List ℕ → Option ℕ → Type 0
IsFoundByName row name (Some number) = IsNamed row name number
IsFoundByName row name None = (number : ℕ) → IsNamed row name number → ⊥

-- the greatest number whose key has a row, or 0 where none has one
pub record IsLast (key : ℕ → Key) (row : Key → Option Row) (last : ℕ) : Type 0 where
  pub above : (number : ℕ) → last < number → row (key number) ≡ None
  pub there : (last ≡ 0) ⊎ IsSome (row (key last))

-- the row of the member at each key of a group is as listed
abbrev pub HasMembers : (Key → Option Row) → List ℕ → List (ℕ × Unit {0}) → Type 0
HasMembers row group members = (account : ℕ) → row (MemberKey group account) ≡ member_row (row_in nat_cmp members account)

-- whether the commit stands at some place of the branch
abbrev pub IsBaseOrNot : (Key → Option Row) → Base → Bool → Type 0
IsBaseOrNot row base true = (place : ℕ) × (row (BaseKey base.project base.branch place) ≡ Some (BaseRow base.commit))
IsBaseOrNot row base false = (place : ℕ) → row (BaseKey base.project base.branch place) ≡ Some (BaseRow base.commit) → ⊥

-- what stands at a place of a list, which is counted from 1
abbrev pub at_place : {X : Type 0} → List X → ℕ → Option X
at_place [] n = None
at_place (x ∷ xs) zero = None
at_place (x ∷ xs) (suc zero) = Some x
at_place (x ∷ xs) (suc (suc n)) = at_place xs (suc n)

-- the bases of a branch are these, each at its place
abbrev pub HasBases : (Key → Option Row) → Branch → List (List ℕ) → Type 0
HasBases row key commits = (place : ℕ) → row (BaseKey key.project key.branch place) ≡ option_map BaseRow (at_place commits place)

-- the row of a change, where there is one
abbrev pub part_of : Option Change → Part → Option PartRow
part_of None part = None
part_of (Some c) part = part_row c part

-- the rows of a number are those of the change, where there is one
abbrev pub HasChange : (Key → Option Row) → ℕ → Option Change → Type 0
HasChange row n c = (part : Part) → row (PartKey n part) ≡ option_map APart (part_of c part)

-- the change of a number is for the branch, and a patch set of it has the commit
pub record IsSender (row : Key → Option Row) (base : Base) (n : ℕ) : Type 0 where
  pub header : Header
  pub stands : row (PartKey n TheHeader) ≡ Some (APart (AHeader header))
  pub project : header.project ≡ base.project
  pub branch : header.branch ≡ base.branch
  pub number : ℕ
  pub patch : PatchRow
  pub sent : row (PartKey n (PatchOf number)) ≡ Some (APart (APatch patch))
  pub commit : patch.commit ≡ base.commit

-- a change for the branch that has a patch set of the commit, or none where none has
abbrev pub IsSentBy : (Key → Option Row) → Base → Option ℕ → Type 0
IsSentBy row base (Some n) = IsSender row base n
IsSentBy row base None = (n : ℕ) → IsSender row base n → ⊥

-- the key of a change's header
abbrev pub header_key : ℕ → Key
header_key n = PartKey n TheHeader

-- the change of a number is for the branch, at the place in it
pub record IsAtPlace (row : Key → Option Row) (key : Branch) (place n : ℕ) : Type 0 where
  pub header : Header
  pub stands : row (header_key n) ≡ Some (APart (AHeader header))
  pub project : header.project ≡ key.project
  pub branch : header.branch ≡ key.branch
  pub placed : header.place ≡ place

-- the last place that a change joined the branch at, or 0 where none did
pub record IsLastJoined (row : Key → Option Row) (key : Branch) (last : ℕ) : Type 0 where
  pub above : (place n : ℕ) → last < place → IsAtPlace row key place n → ⊥
  pub there : (last ≡ 0) ⊎ ((n : ℕ) × IsAtPlace row key last n)

-- the patch set of the change of a number that is current: the one with the greatest number
pub record IsCurrent (row : Key → Option Row) (n : ℕ) (patch : PatchRow) : Type 0 where
  pub number : ℕ
  pub sent : row (PartKey n (PatchOf number)) ≡ Some (APart (APatch patch))
  pub later : (m : ℕ) → number < m → row (PartKey n (PatchOf m)) ≡ None

-- the change of a number is for the branch and merged, and the commit is its current one
pub record IsMergedWith (row : Key → Option Row) (base : Base) (n : ℕ) : Type 0 where
  pub header : Header
  pub stands : row (header_key n) ≡ Some (APart (AHeader header))
  pub project : header.project ≡ base.project
  pub branch : header.branch ≡ base.branch
  pub merged : header.state ≡ Merged
  pub patch : PatchRow
  pub current : IsCurrent row n patch
  pub commit : patch.commit ≡ base.commit

-- the commit is in the branch: a base, or the current commit of a merged change for the branch
abbrev pub IsInBranch : (Key → Option Row) → Base → Type 0
IsInBranch row base = IsBaseOrNot row base true ⊎ ((n : ℕ) × IsMergedWith row base n)

-- what the commit is to the branch: in it, or else that of a patch set of a change for it, or else neither
abbrev pub StandsAs : (Key → Option Row) → Base → Standing → Type 0
StandsAs row base InBranch = IsInBranch row base
StandsAs row base (PatchSet n k) = (IsInBranch row base → ⊥) × (sent : IsSender row base n) × (sent.number ≡ k)
StandsAs row base Nowhere = (IsInBranch row base → ⊥) × IsSentBy row base None

-- the change joined the branch at the place, from 1, and the commit is its current one
pub record IsJoinedAt (row : Key → Option Row) (key : Branch) (place : ℕ) (joined : JoinedChange) : Type 0 where
  pub from_one : 0 < place
  pub at : IsAtPlace row key place joined.change
  pub patch : PatchRow
  pub current : IsCurrent row joined.change patch
  pub commit : patch.commit ≡ joined.commit

-- one change stands before the other: at a smaller place of the branch, or at the same one with a smaller number
abbrev pub IsBefore : (Key → Option Row) → Branch → JoinedChange → JoinedChange → Type 0
IsBefore row key a b = (p q : ℕ) → IsAtPlace row key p a.change → IsAtPlace row key q b.change → (p < q) ⊎ ((p ≡ q) × (a.change < b.change))

-- the changes that joined the branch are these, in the order of their places
pub record HaveJoined (row : Key → Option Row) (key : Branch) (joined : List JoinedChange) : Type 0 where
  pub each : All (λ j. (place : ℕ) × IsJoinedAt row key place j) joined
  pub all : (place : ℕ) (j : JoinedChange) → IsJoinedAt row key place j → Contains joined j
  pub ordered : AllPairs (IsBefore row key) joined

-- what is counted, as tables do
abbrev pub count_of : Counted → Count
count_of counted.Projects = Projects
count_of (counted.BasesOf project) = BasesOf project

-- the limit of a count
abbrev pub most : Count → ℕ
most Projects = most_projects
most (BasesOf project) = most_bases
most ClosedEpochs = last_epoch

-- it is of this kind, with a value for which this holds
abbrev pub Finds : {X : Type 0} → (X → Found) → (X → Type 0) → Found → Type 0
Finds {X} kind IsRight found = (x : X) × (found ≡ kind x) × IsRight x

-- What a look-up in tables finds.
abbrev pub IsFound : Tables → Want → Found → Type 0
IsFound t want.Requests = Finds Number (λ n. n ≡ t.requests)
IsFound t (want.Account number) = Finds Name (λ name. t.row (AccountKey number) ≡ option_map AccountRow name)
IsFound t (want.AccountNamed name) = Finds Holder (IsFoundByName t.row name)
IsFound t want.LastAccount = Finds Number (IsLast AccountKey t.row)
IsFound t (want.Member m) = Finds IsSo (λ is. t.row (MemberKey m.group m.account) ≡ (if is then Some MemberRow else None))
IsFound t (want.Group group) = Finds Members (HasMembers t.row group)
IsFound t (want.File project) = Finds Text (λ file. t.row (FileKey project) ≡ option_map FileRow file)
IsFound t (want.Project project) = Finds IsSo (λ is. is_some (t.row (FileKey project)) ≡ is)
IsFound t (want.Room counted) = Finds IsSo (λ is. nat_lt (t.count (count_of counted)) (most (count_of counted)) ≡ is)
IsFound t (want.Base base) = Finds IsSo (IsBaseOrNot t.row base)
IsFound t (want.LastPlace key) = Finds Number (IsLast (BaseKey key.project key.branch) t.row)
IsFound t (want.Bases key) = Finds Commits (HasBases t.row key)
IsFound t (want.Change n) = Finds AChange (HasChange t.row n)
IsFound t (want.ChangeOf base) = Finds Holder (IsSentBy t.row base)
IsFound t want.LastChange = Finds Number (IsLast header_key t.row)
IsFound t (want.LastJoined key) = Finds Number (IsLastJoined t.row key)
IsFound t (want.Standing base) = Finds Stands (StandsAs t.row base)
IsFound t (want.Joined key) = Finds Joins (HaveJoined t.row key)
IsFound t want.LeastEpoch = Finds Number (λ n. n ≡ t.count ClosedEpochs)

-- the order of look-ups that is derived: by their kind, then by what is asked
abbrev pub want_cmp : Want → Want → Ordering
want_cmp a b = want_order.ghosts.cmp a b

-- what was found, as look-ups speak of it
abbrev pub meaning : Kept → Found
meaning (kept.Number n) = Number n
meaning (kept.Name name) = Name name
meaning (kept.Holder holder) = Holder holder
meaning (kept.Sender change) = Holder change
meaning (kept.IsSo is) = IsSo is
meaning (kept.Text file) = Text file
meaning (kept.Commits bases) = Commits bases
meaning (kept.AChange c) = AChange (option_map (λ r. seen r.value) c)
meaning (kept.Stands standing) = Stands standing
meaning (kept.Joins joined) = Joins joined

-- the members of a group, as a look-up speaks of them
abbrev pub held : List (ℕ × Option (Unit {0})) → Found
held t = Members (rows_of t)

-- the group whose members are looked up
abbrev pub group_of : Want → Option (List ℕ)
group_of (want.Group group) = Some group
group_of w = None

-- what rows know of the members of a group, or else of another look-up
abbrev pub known_by : Rows → Want → Option (List ℕ) → Option Found
known_by rows w (Some group) = option_map held (row_in (slice_cmp nat_cmp) (rows_of rows.groups) group)
known_by rows w None = option_map meaning (row_in want_cmp (rows_of rows.found) w)

-- What rows know of a look-up: nothing where it wasn't made, and otherwise what it found.
abbrev pub known : Rows → Want → Option Found
known rows w = known_by rows w (group_of w)

-- what rows know is so in these tables
abbrev pub Agrees : Tables → Rows → Type 0
Agrees t rows = (w : Want) (found : Found) → known rows w ≡ Some found → IsFound t w found

-- a look-up was made
abbrev pub IsKnown : Rows → Want → Type 0
IsKnown rows w = is_some (known rows w) ≡ true

-- what the first rows know, the others know alike
abbrev pub StaysKnown : Rows → Rows → Type 0
StaysKnown first rows = (w : Want) → IsKnown first w → known rows w ≡ known first w

-- rows know of these look-ups now, and of each other one what they knew
pub record AreAsked (wants : List Want) (old new : Rows) : Type 0 where
  pub all : All (IsKnown new) wants
  pub others : (w : Want) → (known new w ≡ known old w) ⊎ Contains wants w

-- what rows know now, they knew, or it is so in these tables
abbrev pub AgreesBeside : Tables → Rows → Rows → Type 0
AgreesBeside t old new = (w : Want) (found : Found) → known new w ≡ Some found → (known old w ≡ Some found) ⊎ IsFound t w found

-- it is found that it is so
abbrev pub is_so : Option Found → Bool
is_so (Some (IsSo is)) = is
is_so found = false

-- an account is found
abbrev pub is_there : Option Found → Bool
is_there (Some (Name name)) = is_some name
is_there found = false

-- the number that is found, or 0
abbrev pub number_of : Option Found → ℕ
number_of (Some (Number n)) = n
number_of found = 0

-- the account or the change that is found
abbrev pub holder_of : Option Found → Option ℕ
holder_of (Some (Holder holder)) = holder
holder_of found = None

-- the members of a group that are found
abbrev pub members_of : Option Found → List (ℕ × Unit {0})
members_of (Some (Members members)) = members
members_of found = []

-- the file that is found
abbrev pub file_in : Option Found → Option StoredFile
file_in (Some (Text file)) = file
file_in found = None

-- the bases of a branch that are found
abbrev pub commits_of : Option Found → List (List ℕ)
commits_of (Some (Commits commits)) = commits
commits_of found = []

-- the change that is found
abbrev pub change_in : Option Found → Option Change
change_in (Some (AChange c)) = c
change_in found = None

-- what a commit is found to be to a branch; where something else was found, as no look-up does, nothing to it
abbrev pub standing_of : Option Found → Option Standing
standing_of (Some (Stands standing)) = Some standing
standing_of (Some found) = Some Nowhere
standing_of None = None

-- the changes that are found to have joined a branch
abbrev pub joined_of : Option Found → List JoinedChange
joined_of (Some (Joins joined)) = joined
joined_of found = []

-- rows know one look-up more, or anew, and of each other one what they knew
pub record Learns (want : Want) (found : Found) (old new : Rows) : Type 0 where
  pub here : known new want ≡ Some found
  pub others : (w : Want) → (known new w ≡ known old w) ⊎ ((w ≡ want) × (known new w ≡ Some found))

-- rows learn what a look-up finds
abbrev pub LearnsFound : Tables → Want → Rows → Rows → Type 0
LearnsFound t w old new = (f : Found) × IsFound t w f × Learns w f old new
