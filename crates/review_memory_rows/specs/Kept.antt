-- Rows of changes in memory.
use Rattle.std.specs.{Cmp.Lexicographic.slice_cmp, List.All, Ordering.nat_cmp, Ordering.ordering_then}
use Rattle.std.specs.Prelude.{ℕ, Bool, true, false, ◌&&◌, ◌==◌, ◌<◌, ◌≤◌, ◌≡◌, ◌++◌, List, [], ◌∷◌, Option, Some, None, option_map, option_to_list, flat_map, unwrap_or, IsSome, if◌then◌else◌}
use Rattle.std.specs.{Str.bytes_eq, declared.cmp.Ordering.Ordering}
use Rattle.review_names.specs.Forms.{most_changes, most_patches}
use Rattle.review_table.specs.Rows.{after_row_edit, changed, is_named, row_in, rows_of, HasEmptyOnly, HasNoEmptyPlace, HavePlaces}
use Rattle.review_table.specs.declared.table.RowEdit.{RowEdit}
use Rattle.review_words.specs.declared.shown.{JoinedChange.JoinedChange, State.TheVariants.Merged}
use Rattle.review_core_rules.specs.Change.{Change as ChangeSeen}
use Rattle.review_core_rules.specs.Parts.{Part, TheHeader, PatchOf, PartRow, AHeader, APatch}
use Rattle.review_core_rules.specs.declared.rows.{Header.Header, PatchRow.PatchRow}
use Rattle.review_machine_rows.specs.Known.{HasChange, IsJoinedAt, IsSender, IsSentBy}
use Rattle.review_machine_rows.specs.Rows.{Key, PartKey, Row, APart, branch_cmp, edited, part_change}
use Rattle.review_machine_rows.specs.declared.rows.{Base.Base, BranchKey.BranchKey as Branch, ChangeEdit.ChangeEdit}
use Rattle.review_machine_change_rows.specs.{Tables.part_in, declared.loading.ChangeFault.ChangeFault}
use Rattle.review_machine_change_rows.specs.declared.loading.ChangeFault.TheVariants.{Memory, Gap}
use Rattle.review_machine_change_rows.specs.declared.tables.ChangeTables.{ChangeTables}
use Rattle.review_memory_rows.specs.declared.{edits.NewTables.NewTables, kept.Prepared.Prepared, kept.SentKey.SentKey}
use Rattle.review_memory_rows.specs.declared.places.PlaceKey.{PlaceKey}

-- the row of a change, where it has tables
abbrev pub part_where : Option ChangeTables → Part → Option PartRow
part_where None part = None
part_where (Some t) part = part_in t part

-- the row of the change of a number, among the tables of changes
abbrev pub part_at : List (ℕ × ChangeTables) → ℕ → Part → Option PartRow
part_at kept n part = part_where (row_in nat_cmp kept n) part

-- the row of a key, where there are changes only
abbrev pub row_of : List (ℕ × ChangeTables) → Key → Option Row
row_of kept (PartKey n part) = option_map APart (part_at kept n part)
row_of kept _ = None

-- why the change of a number is not given: where its rows have a gap, they are those of no change, and not none
abbrev pub IsUnread : List (ℕ × ChangeTables) → ℕ → ChangeFault → Type 0
IsUnread kept n Memory = Unit {0}
IsUnread kept n Gap = (c : Option ChangeSeen) → HasChange (row_of kept) n c → ⊥

-- the tables are those of a change that an edit changes, where it had these rows before
abbrev pub AreEdited : (Part → Option PartRow) → ChangeEdit → ChangeTables → Type 0
AreEdited old e t = (part : Part) → part_in t part ≡ after_row_edit (part_change e part) (old part)

-- the tables of a change with what an edit makes of them
abbrev pub renewed : ChangeTables → NewTables → ChangeTables
renewed old new = record {
  header = new.header;
  patches = unwrap_or new.patches old.patches;
  votes = unwrap_or new.votes old.votes;
  roles = unwrap_or new.roles old.roles;
  comments = unwrap_or new.comments old.comments;
  attention = unwrap_or new.attention old.attention;
}

-- the same where an edit makes something of them
abbrev pub renewed_by : Option NewTables → ChangeTables → ChangeTables
renewed_by None old = old
renewed_by (Some new) old = renewed old new

-- the tables of the change of a number, where it is there, with what is made of it: by the first that names it
abbrev pub renewed_at : List (ℕ × NewTables) → ℕ → Option ChangeTables → Option ChangeTables
renewed_at changes n was = option_map (renewed_by (row_in nat_cmp changes n)) was

-- the tables of the change of a number once what was prepared is made
abbrev pub made : Prepared → ℕ → Option ChangeTables → Option ChangeTables
made p n was = renewed_at p.renewed.items n (changed nat_cmp p.begun.items n was)

-- what an edit makes of its change is listed: its tables, where it wasn't there
pub record Begins (e : ChangeEdit) (old new : List (RowEdit ℕ ChangeTables)) : Type 0 where
  pub tables : ChangeTables
  pub edited : AreEdited (λ part. None) e tables
  pub listed : new ≡ old ++ record { key = e.change; row = Some tables } ∷ []

-- or what it makes of the tables that were there
pub record Renews (t : ChangeTables) (e : ChangeEdit) (old new : List (ℕ × NewTables)) : Type 0 where
  pub tables : NewTables
  pub edited : AreEdited (part_in t) e (renewed t tables)
  pub listed : new ≡ old ++ (e.change, tables) ∷ []

-- what an edit makes of its change is listed, where it had these tables or none
abbrev pub IsPrepared : Option ChangeTables → ChangeEdit → List (RowEdit ℕ ChangeTables) → List (RowEdit ℕ ChangeTables) → List (ℕ × NewTables) → List (ℕ × NewTables) → Type 0
IsPrepared None e begun begun_then renewed renewed_then = Begins e begun begun_then × (renewed_then ≡ renewed)
IsPrepared (Some t) e begun begun_then renewed renewed_then = Renews t e renewed renewed_then × (begun_then ≡ begun)

-- by commit, then by change, then by patch set
abbrev pub sent_cmp : SentKey → SentKey → Ordering
sent_cmp a b = ordering_then (slice_cmp nat_cmp a.commit b.commit) (ordering_then (nat_cmp a.change b.change) (nat_cmp a.patch b.patch))

-- the numbers of a change and a patch set are ones that these can have
abbrev pub IsNumbered : SentKey → Type 0
IsNumbered k = (1 ≤ k.change) × (k.change ≤ most_changes) × (1 ≤ k.patch) × (k.patch ≤ most_patches)

-- the keys of these changes have such numbers
abbrev pub AreNumbered : List (RowEdit SentKey (Unit {0})) → Type 0
AreNumbered changes = All (λ c. IsNumbered c.key) changes

-- a list with the key of a patch set in front, where it is one
abbrev pub with_sent : ℕ → ℕ → Option PatchRow → List (RowEdit SentKey (Unit {0})) → List (RowEdit SentKey (Unit {0}))
with_sent n p None rest = rest
with_sent n p (Some patch) rest = record { key = record { commit = patch.commit; change = n; patch = p }; row = Some tt } ∷ rest

-- the keys of the patch sets that a change gets
abbrev pub sent_in : ℕ → List (RowEdit ℕ PatchRow) → List (RowEdit SentKey (Unit {0}))
sent_in n [] = []
sent_in n (c ∷ cs) = with_sent n c.key c.row (sent_in n cs)

-- the keys of the patch sets that changes get
abbrev pub sent_by : List ChangeEdit → List (RowEdit SentKey (Unit {0}))
sent_by [] = []
sent_by (e ∷ es) = sent_in e.change e.patches.items ++ sent_by es

-- each patch set is listed by its commit, and each listed key has numbers that there can be
pub record AreListed (sent : List (SentKey × Unit {0})) (kept : List (ℕ × ChangeTables)) : Type 0 where
  pub fits : (k : SentKey) → row_in sent_cmp sent k ≡ Some tt → IsNumbered k
  pub listed : (n p : ℕ) (patch : PatchRow) → part_at kept n (PatchOf p) ≡ Some (APatch patch) → row_in sent_cmp sent (record { commit = patch.commit; change = n; patch = p }) ≡ Some tt

-- whether it is a patch set of the commit
abbrev pub has_commit : Option PatchRow → List ℕ → Bool
has_commit None commit = false
has_commit (Some patch) commit = bytes_eq patch.commit commit

-- whether a change is for the branch, and its patch set of a number has the commit
abbrev pub is_sent : Option ChangeTables → Base → ℕ → Bool
is_sent None base p = false
is_sent (Some t) base p = bytes_eq t.header.project base.project && (bytes_eq t.header.branch base.branch && has_commit (row_in nat_cmp (rows_of t.patches) p) base.commit)

-- no patch set has a greater number
abbrev pub IsLastOf : List (ℕ × PatchRow) → ℕ → Type 0
IsLastOf patches p = (m : ℕ) → p < m → row_in nat_cmp patches m ≡ None

-- the patch set with the greatest number, or that there is none
abbrev pub IsCurrentOf : List (ℕ × PatchRow) → Option PatchRow → Type 0
IsCurrentOf patches (Some patch) = (p : ℕ) × (row_in nat_cmp patches p ≡ Some patch) × IsLastOf patches p
IsCurrentOf patches None = (p : ℕ) → row_in nat_cmp patches p ≡ None

-- a change is merged, and its patch set of a number is its current one
abbrev pub IsMergedAt : ChangeTables → ℕ → Type 0
IsMergedAt t p = (t.header.state ≡ Merged) × IsLastOf (rows_of t.patches) p

-- a change is for the branch, and its patch set of a number has the commit; where it is to be merged, as its current one
abbrev pub IsSentAs : Bool → Option ChangeTables → Base → ℕ → Type 0
IsSentAs merged None base p = ⊥
IsSentAs merged (Some t) base p = (is_sent (Some t) base p ≡ true) × (merged ≡ true → IsMergedAt t p)

-- a change that has sent the commit so, by its patch set of a number, or that none has
abbrev pub IsFoundSent : Bool → List (ℕ × ChangeTables) → Base → Option (ℕ × ℕ) → Type 0
IsFoundSent merged kept base (Some found) = IsSentAs merged (row_in nat_cmp kept found.0) base found.1
IsFoundSent merged kept base None = (n p : ℕ) → IsSentAs merged (row_in nat_cmp kept n) base p → ⊥

-- the change for the branch that has a patch set of the commit, by its number, or that none has
abbrev pub IsSentIn : (Key → Option Row) → Base → Option (ℕ × ℕ) → Type 0
IsSentIn row base (Some found) = (sent : IsSender row base found.0) × (sent.number ≡ found.1)
IsSentIn row base None = IsSentBy row base None

-- ---- places in branches

-- by branch, then by place, then by change
abbrev pub place_cmp : PlaceKey → PlaceKey → Ordering
place_cmp a b = ordering_then (branch_cmp a.branch b.branch) (ordering_then (nat_cmp a.place b.place) (nat_cmp a.change b.change))

-- the place is one that there can be, from 1, and the number one of a change
abbrev pub IsPlaceKey : PlaceKey → Type 0
IsPlaceKey k = (1 ≤ k.place) × (k.place ≤ 4294967295) × (1 ≤ k.change) × (k.change ≤ most_changes)

-- the keys of these changes are so
abbrev pub ArePlaceKeys : List (RowEdit PlaceKey (Unit {0})) → Type 0
ArePlaceKeys changes = All (λ c. IsPlaceKey c.key) changes

-- the key of a change at the place that its header has
abbrev pub place_of : ℕ → Header → PlaceKey
place_of n h = record { branch = record { project = h.project; branch = h.branch }; place = h.place; change = n }

-- the key of the place that a change gets, where it gets one
abbrev pub placed_in : ChangeEdit → List (RowEdit PlaceKey (Unit {0}))
placed_in e = if e.header.place == 0 then [] else record { key = place_of e.change e.header; row = Some tt } ∷ []

-- each change with a place is listed by it, and each listed key is one that there can be
pub record ArePlaced (placed : List (PlaceKey × Unit {0})) (kept : List (ℕ × ChangeTables)) : Type 0 where
  pub fits : (k : PlaceKey) → row_in place_cmp placed k ≡ Some tt → IsPlaceKey k
  pub listed : (n : ℕ) (h : Header) → part_at kept n TheHeader ≡ Some (AHeader h) → 0 < h.place → row_in place_cmp placed (place_of n h) ≡ Some tt

-- whether a change is for the branch, at the place in it
abbrev pub is_placed : Option ChangeTables → Branch → ℕ → Bool
is_placed None key place = false
is_placed (Some t) key place = bytes_eq t.header.project key.project && (bytes_eq t.header.branch key.branch && (t.header.place == place))

-- the change of a listed key as it joined the branch, where it did so at the key's place
abbrev pub IsJoinedOrNot : (Key → Option Row) → Branch → PlaceKey → Option JoinedChange → Type 0
IsJoinedOrNot row key k (Some joined) = (joined.change ≡ k.change) × (0 < k.place → IsJoinedAt row key k.place joined)
IsJoinedOrNot row key k None = (joined : JoinedChange) → joined.change ≡ k.change → IsJoinedAt row key k.place joined → ⊥

-- the change of a listed key is added to a list, where it joined the branch so
abbrev pub AddsJoined : (Key → Option Row) → Branch → PlaceKey → List JoinedChange → List JoinedChange → Type 0
AddsJoined row key k old new = (joined : Option JoinedChange) × IsJoinedOrNot row key k joined × (new ≡ old ++ option_to_list joined)

-- ---- both indexes

-- the indexes have what the rows say
pub record AreIndexed (sent : List (SentKey × Unit {0})) (placed : List (PlaceKey × Unit {0})) (kept : List (ℕ × ChangeTables)) : Type 0 where
  pub by_commit : AreListed sent kept
  pub by_place : ArePlaced placed kept

-- the places of changes by their numbers, and those of the indexes by commit and by place in a branch
pub record KeptView : Type 0 where
  pub kept : List (ℕ × Option ChangeTables)
  pub sent : List (SentKey × Option (Unit {0}))
  pub placed : List (PlaceKey × Option (Unit {0}))

-- what edits make of changes was prepared
pub record ArePrepared (kept : List (ℕ × ChangeTables)) (edits : List ChangeEdit) (p : Prepared) : Type 0 where
  pub tables : (n : ℕ) (part : Part) → part_where (made p n (row_in nat_cmp kept n)) part ≡ after_row_edit (edited edits n part) (part_at kept n part)
  pub begun : All (λ c. IsSome c.row) p.begun.items
  pub keys : p.keys.items ≡ sent_by edits
  pub numbered : AreNumbered p.keys.items
  pub places : p.places.items ≡ flat_map placed_in edits
  pub fit : ArePlaceKeys p.places.items

-- what was prepared is what some edits make of these changes
abbrev pub IsReady : List (ℕ × ChangeTables) → Prepared → Type 0
IsReady kept p = (edits : List ChangeEdit) × ArePrepared kept edits p

-- there is a place for each row that changes
pub record HasRoomFor (p : Prepared) (v : KeptView) : Type 0 where
  pub begun : HavePlaces nat_cmp v.kept p.begun.items
  pub keys : HavePlaces sent_cmp v.sent p.keys.items
  pub places : HavePlaces place_cmp v.placed p.places.items

-- every place has a row
pub record IsFull (v : KeptView) : Type 0 where
  pub kept : HasNoEmptyPlace nat_cmp v.kept
  pub sent : HasNoEmptyPlace sent_cmp v.sent
  pub placed : HasNoEmptyPlace place_cmp v.placed

-- every place has a row, but for those of rows that change
pub record IsFullBut (p : Prepared) (v : KeptView) : Type 0 where
  pub kept : HasEmptyOnly nat_cmp (is_named nat_cmp p.begun.items) v.kept
  pub sent : HasEmptyOnly sent_cmp (is_named sent_cmp p.keys.items) v.sent
  pub placed : HasEmptyOnly place_cmp (is_named place_cmp p.places.items) v.placed
