-- The bases of branches, in memory.
use Rattle.std.specs.{BTreeMap.is_at, Cmp.Lexicographic.slice_cmp, Ordering.nat_cmp, Ordering.ordering_then}
use Rattle.std.specs.Prelude.{ℕ, ◌+◌, ◌<◌, ◌≤◌, ◌≡◌, ◌↔◌, ◌⊎◌, ◌&&◌, not, List, [], ◌∷◌, Option, Some, None, IsSome, Bool, true, false, unwrap_or, is_some, if◌then◌else◌}
use Rattle.std.specs.{Str.bytes_eq, declared.cmp.Ordering.Ordering}
use Rattle.review_table.specs.Rows.{row_in, is_named, HasNoEmptyPlace, HasEmptyOnly}
use Rattle.review_machine_rows.specs.{Known.at_place, Rows.branch_cmp, Rows.place_cmp}
use Rattle.review_machine_rows.specs.declared.rows.{Base.Base, BranchKey.BranchKey, PlaceKey.PlaceKey, Put.Put}
use Rattle.review_machine_change_rows.specs.declared.loading.ChangeFault.{ChangeFault}
use Rattle.review_machine_change_rows.specs.declared.loading.ChangeFault.TheVariants.{Memory, Gap}
use Rattle.review_memory_rows.specs.declared.{bases.BaseChanges.BaseChanges, keys.CommitKey.CommitKey}

-- by commit, then by project, then by branch, then by place
abbrev pub commit_cmp : CommitKey → CommitKey → Ordering
commit_cmp a b =
    ordering_then (slice_cmp nat_cmp a.commit b.commit)
    (ordering_then (slice_cmp nat_cmp a.project b.project) (ordering_then (slice_cmp nat_cmp a.branch b.branch) (nat_cmp a.place b.place)))

-- the commits at places of branches, and of projects how many bases they have
pub record BranchesView : Type 0 where
  pub bases : List (PlaceKey × List ℕ)
  pub totals : List (List ℕ × ℕ)

-- the base at a place of a branch, among rows
abbrev pub base_at : List (PlaceKey × List ℕ) → List ℕ → List ℕ → ℕ → Option (List ℕ)
base_at rows project branch place = row_in place_cmp rows (record { project = project; branch = branch; place = place })

-- how many bases a project has, among rows
abbrev pub total_in : List (List ℕ × ℕ) → List ℕ → ℕ
total_in rows project = unwrap_or (row_in (slice_cmp nat_cmp) rows project) 0

-- the last place of a branch, among rows
abbrev pub last_in : List (BranchKey × ℕ) → List ℕ → List ℕ → ℕ
last_in rows project branch = unwrap_or (row_in branch_cmp rows (record { project = project; branch = branch })) 0

-- where a commit stands, as a key
abbrev pub commit_at : PlaceKey → List ℕ → CommitKey
commit_at k commit = record { project = k.project; branch = k.branch; commit = commit; place = k.place }

-- the greatest place that a key can have
abbrev pub greatest_place : ℕ
greatest_place = 18446744073709551615

-- the index by commit has the bases and nothing else, and each place is one that a key can have
pub record AreListed (commits : List (CommitKey × Unit {0})) (bases : List (PlaceKey × List ℕ)) : Type 0 where
  pub fits : (k : PlaceKey) (commit : List ℕ) → row_in place_cmp bases k ≡ Some commit → k.place ≤ greatest_place
  pub listed : (k : PlaceKey) (commit : List ℕ) → (row_in place_cmp bases k ≡ Some commit) ↔ (row_in commit_cmp commits (commit_at k commit) ≡ Some tt)

-- whether the base that stood at a place before has this commit
abbrev pub has_commit : Option CommitKey → List ℕ → Bool
has_commit None commit = false
has_commit (Some before) commit = bytes_eq before.commit commit

-- whether a key of the index is that of the base that stood at a place before, where this commit is another one
abbrev pub is_stale : Option CommitKey → List ℕ → CommitKey → Bool
is_stale None commit q = false
is_stale (Some before) commit q = not (bytes_eq before.commit commit) && is_at (commit_cmp before) q

-- no base of a branch stands behind its last place, and one stands there, unless it is 0
pub record IsLastPlace (bases : List (PlaceKey × List ℕ)) (project branch : List ℕ) (last : ℕ) : Type 0 where
  pub above : (place : ℕ) → last < place → base_at bases project branch place ≡ None
  pub there : (last ≡ 0) ⊎ IsSome (base_at bases project branch last)

-- the last place of each branch is known
abbrev pub AreLast : List (BranchKey × ℕ) → List (PlaceKey × List ℕ) → Type 0
AreLast lasts bases = (project branch : List ℕ) → IsLastPlace bases project branch (last_in lasts project branch)

-- a base was put at its place
pub record IsPut (base : Put PlaceKey (List ℕ)) (old new : BranchesView) : Type 0 where
  pub bases : (k : PlaceKey) → row_in place_cmp new.bases k ≡ (if is_at (place_cmp base.key) k then Some base.row else row_in place_cmp old.bases k)
  pub totals : (p : List ℕ) → total_in new.totals p ≡ (if bytes_eq base.key.project p then (if is_some (row_in place_cmp old.bases base.key) then total_in old.totals p else total_in old.totals p + 1) else total_in old.totals p)

-- the bases of a branch are these, each at its place
abbrev pub AreBases : List (PlaceKey × List ℕ) → BranchKey → List (List ℕ) → Type 0
AreBases rows key commits = (place : ℕ) → base_at rows key.project key.branch place ≡ at_place commits place

-- why the bases of a branch are not given: where they have a gap, no list has them at its places
abbrev pub IsUnlisted : List (PlaceKey × List ℕ) → BranchKey → ChangeFault → Type 0
IsUnlisted rows key Memory = Unit {0}
IsUnlisted rows key Gap = (commits : List (List ℕ)) → AreBases rows key commits → ⊥

-- whether the commit stands at some place of its branch
abbrev pub IsCommitThere : List (PlaceKey × List ℕ) → Base → Bool → Type 0
IsCommitThere rows base true = (place : ℕ) × (base_at rows base.project base.branch place ≡ Some base.commit)
IsCommitThere rows base false = (place : ℕ) → base_at rows base.project base.branch place ≡ Some base.commit → ⊥

-- the changes of the other tables put a base, where its key stands in the index already or not, its branch has this last place then and its project so many bases
pub record PutsBase (base : Put PlaceKey (List ℕ)) (is_listed : Bool) (branch : BranchKey) (last total : ℕ) (changes : BaseChanges) : Type 0 where
  pub listed : changes.listed ≡ commit_at base.key base.row
  pub stood : changes.is_listed ≡ is_listed
  pub ended : changes.ended.items ≡ record { key = branch; row = Some last } ∷ []
  pub counted : changes.counted.items ≡ record { key = base.key.project; row = Some total } ∷ []

-- every place of the tables has a row
pub record HasNoSpare (bases : List (PlaceKey × Option (List ℕ))) (commits : List (CommitKey × Option (Unit {0}))) (lasts : List (BranchKey × Option ℕ)) (totals : List (List ℕ × Option ℕ)) : Type 0 where
  pub bases_full : HasNoEmptyPlace place_cmp bases
  pub commits_full : HasNoEmptyPlace commit_cmp commits
  pub lasts_full : HasNoEmptyPlace branch_cmp lasts
  pub totals_full : HasNoEmptyPlace (slice_cmp nat_cmp) totals

-- every place of the tables has a row, but for those of last places and of numbers of bases that the changes name
pub record HasSpareOnly (changes : BaseChanges) (bases : List (PlaceKey × Option (List ℕ))) (commits : List (CommitKey × Option (Unit {0}))) (lasts : List (BranchKey × Option ℕ)) (totals : List (List ℕ × Option ℕ)) : Type 0 where
  pub bases_full : HasNoEmptyPlace place_cmp bases
  pub commits_full : HasNoEmptyPlace commit_cmp commits
  pub lasts_spare : HasEmptyOnly branch_cmp (is_named branch_cmp changes.ended.items) lasts
  pub totals_spare : HasEmptyOnly (slice_cmp nat_cmp) (is_named (slice_cmp nat_cmp) changes.counted.items) totals
