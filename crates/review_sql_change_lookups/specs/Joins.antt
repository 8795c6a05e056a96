-- Which change sent a commit, and which changes joined a branch.
use Rattle.std.specs.Prelude.{ℕ, ◌≡◌, ◌<◌, ◌&&◌, Bool, true, false, Option, Some, None, ◌≤◌, ◌⊎◌, List}
use Rattle.{std.specs.Str.bytes_eq, sqlite_trees.specs.Tree.Trees}
use Rattle.review_words.specs.declared.shown.{JoinedChange.JoinedChange, State.TheVariants.Merged}
use Rattle.review_core_rules.specs.{Parts.PatchOf, declared.rows.Header.Header, declared.rows.PatchRow.PatchRow}
use Rattle.review_machine_rows.specs.Known.{IsInBranch, IsSender, IsAtPlace, IsCurrent, IsJoinedAt}
use Rattle.review_machine_rows.specs.{Rows.PartKey, Shelf.IsDamaged}
use Rattle.review_machine_rows.specs.declared.rows.{Base.Base, BranchKey.BranchKey, PlaceKey.PlaceKey}
use Rattle.review_sql_lookups.specs.Tables.{tables_at}

-- ---- which change sent a commit, and which of them is merged with it

-- whether it is so; where that is not told, the tables are those of no history
abbrev pub TellsIf : Trees → Type 0 → Option Bool → Type 0
TellsIf db IsSo None = IsDamaged (tables_at db)
TellsIf db IsSo (Some true) = IsSo
TellsIf db IsSo (Some false) = IsSo → ⊥

-- whether a change with the header is for the branch, and the patch set has the commit
abbrev pub is_sent_with : Base → Header → PatchRow → Bool
is_sent_with base header patch = bytes_eq header.project base.project && (bytes_eq header.branch base.branch && bytes_eq patch.commit base.commit)

-- it is so, and where a merged change is looked for, it is merged
abbrev pub IsSentWith : Bool → Base → Header → PatchRow → Type 0
IsSentWith merged base header patch = (is_sent_with base header patch ≡ true) × (merged ≡ true → header.state ≡ Merged)

-- a change for the branch has sent the commit by its patch set of a number; where a merged change is looked for, it is merged
abbrev pub HasSent : Bool → Base → ℕ × ℕ → Trees → Type 0
HasSent merged base e db = (s : IsSender (tables_at db).row base e.0) × (s.number ≡ e.1) × (merged ≡ true → s.header.state ≡ Merged)

-- no patch set of the change has a greater number
abbrev pub IsLastSet : ℕ × ℕ → Trees → Type 0
IsLastSet e db = (m : ℕ) → e.1 < m → (tables_at db).row (PartKey e.0 (PatchOf m)) ≡ None

-- a change for the branch has sent the commit by its patch set of a number; where a merged change is looked for, it is merged, and that is its current patch set
abbrev pub IsSentIn : Bool → Base → ℕ × ℕ → Trees → Type 0
IsSentIn merged base e db = HasSent merged base e db × (merged ≡ true → IsLastSet e db)

-- whether it has
abbrev pub Examines : Bool → Base → ℕ × ℕ → Trees → Option Bool → Type 0
Examines merged base e db is = TellsIf db (IsSentIn merged base e db) is

-- a change that has sent the commit so, with the number of its patch set, or that none has
abbrev pub IsFoundSent : Bool → Base → Trees → Option (ℕ × ℕ) → Type 0
IsFoundSent merged base db (Some e) = IsSentIn merged base e db
IsFoundSent merged base db None = (e : ℕ × ℕ) → IsSentIn merged base e db → ⊥

-- the commit is not in the branch
abbrev pub IsOutside : Base → Trees → Type 0
IsOutside base db = IsInBranch (tables_at db).row base → ⊥

-- ---- which changes joined a branch

-- the branch of a place
abbrev pub branch_of : PlaceKey → BranchKey
branch_of key = record { project = key.project; branch = key.branch }

-- the change joined the branch at the place, and no other stands there
pub record IsOnlyAt (key : PlaceKey) (db : Trees) (joined : JoinedChange) : Type 0 where
  pub here : IsJoinedAt (tables_at db).row (branch_of key) key.place joined
  pub only : (n : ℕ) → IsAtPlace (tables_at db).row (branch_of key) key.place n → n ≡ joined.change

-- what was found is the header of a change for the branch, at the place in it
abbrev pub IsHeaderAt : Option (Option Header) → List ℕ → List ℕ → ℕ → Type 0
IsHeaderAt found project branch place = (h : Header) × (found ≡ Some (Some h)) × (h.project ≡ project) × (h.branch ≡ branch) × (h.place ≡ place)

-- the current patch set of a change; where none is told it has none, or the tables are those of no history
abbrev pub TellsCurrent : ℕ → Trees → Option PatchRow → Type 0
TellsCurrent n db None = IsDamaged (tables_at db) ⊎ ((m : ℕ) → (tables_at db).row (PartKey n (PatchOf m)) ≡ None)
TellsCurrent n db (Some patch) = IsCurrent (tables_at db).row n patch

-- the change at a place; where none is told and one stands there or at a later place, the tables are those of no history
abbrev pub TellsAt : PlaceKey → Trees → Option JoinedChange → Type 0
TellsAt key db None = (last n : ℕ) → key.place ≤ last → IsAtPlace (tables_at db).row (branch_of key) last n → IsDamaged (tables_at db)
TellsAt key db (Some joined) = IsOnlyAt key db joined

-- no change stands at a later place of the branch
abbrev pub NoneAbove : BranchKey → ℕ → Trees → Type 0
NoneAbove key last db = (place n : ℕ) → last < place → IsAtPlace (tables_at db).row key place n → ⊥

-- the last place: no change stands later, and one stands there unless it is 0, or the tables are those of no history
pub record IsLastPlace (key : BranchKey) (db : Trees) (last : ℕ) : Type 0 where
  pub above : NoneAbove key last db
  pub there : 0 < last → IsDamaged (tables_at db) ⊎ ((n : ℕ) × IsAtPlace (tables_at db).row key last n)
