-- The changes that one submit joins to a branch.
use Rattle.std.specs.Prelude.{◌≡◌, ℕ, ◌≤◌, ◌==◌, Bool, true, false, not, List, [], ◌∷◌, length, Option, Some, None, if◌then◌else◌, option_and_then}
use Rattle.review_words.specs.declared.shown.State.{State}
use Rattle.review_words.specs.declared.shown.State.TheVariants.{New, Merged as MergedState, Abandoned as AbandonedState}
use Rattle.review_chain.specs.Branches.{Branch, parent_standing}
use Rattle.review_chain.specs.declared.links.{Link.Link, Standing.Standing}
use Rattle.review_chain.specs.declared.links.Standing.TheVariants.{InBranch, PatchSet, Nowhere}
use Rattle.review_chain.specs.declared.walks.ChainFault.{ChainFault}
use Rattle.review_chain.specs.declared.walks.ChainFault.TheVariants.{TooLong, Outdated, Abandoned, Wip, Broken}

-- A change has at most this many in its chain.
abbrev pub most_changes : ℕ
most_changes = 100

-- One change stands before another: the parent of this one isn't in the branch and is the current commit of that one, which is open and not in work in progress.
pub record Follows (b : Branch) (before c : ℕ) : Type 0 where
  pub patch : ℕ
  pub parent : parent_standing b c ≡ Some (PatchSet before patch)
  pub link : Link
  pub there : b.link before ≡ Some link
  pub current : patch ≡ link.patch
  pub is_open : link.state ≡ New
  pub is_ready : link.wip ≡ false

-- A change is open and not in work in progress.
pub record IsReady (b : Branch) (c : ℕ) : Type 0 where
  pub link : Link
  pub there : b.link c ≡ Some link
  pub is_open : link.state ≡ New
  pub is_ready : link.wip ≡ false

-- A walk to a change: changes that end in it, each standing before the next.
abbrev pub IsWalk : Branch → List ℕ → ℕ → Type 0
IsWalk b [] c = ⊥
IsWalk b (d ∷ []) c = d ≡ c
IsWalk b (d ∷ e ∷ rest) c = Follows b d e × IsWalk b (e ∷ rest) c

-- the change at which a walk begins
abbrev pub first_of : List ℕ → ℕ
first_of [] = 0
first_of (d ∷ ds) = d

-- The chain of a change: the walk to it, of 1 to 100 changes, whose first change has a parent in the branch.
pub record IsChain (b : Branch) (walk : List ℕ) (c : ℕ) : Type 0 where
  pub walks : IsWalk b walk c
  pub short : length walk ≤ most_changes
  pub based : parent_standing b (first_of walk) ≡ Some InBranch

-- whether a change is abandoned
abbrev pub is_abandoned : State → Bool
is_abandoned AbandonedState = true
is_abandoned _ = false

-- whether a change is merged
abbrev pub is_merged : State → Bool
is_merged MergedState = true
is_merged _ = false

-- What is wrong with a patch set of a change as a link: it isn't current, else the change is abandoned, else in work in progress; else it is merged, which no branch has.
abbrev pub patch_set_fault : ℕ → Link → Option ChainFault
patch_set_fault patch l =
    if not (patch == l.patch) then Some Outdated
    else if is_abandoned l.state then Some Abandoned
    else if l.wip then Some Wip
    else if is_merged l.state then Some Broken
    else None

-- What is wrong with a commit as the link before a walk of n changes: 100 are enough, else what is wrong with its patch set; with none, no branch has it.
abbrev pub link_fault : Branch → ℕ → Standing → Option ChainFault
link_fault b n InBranch = None
link_fault b n (PatchSet d patch) = if n == most_changes then Some TooLong else option_and_then (patch_set_fault patch) (b.link d)
link_fault b n Nowhere = Some Broken

-- A bad link: a walk of 1 to 100 changes to a change, and what is wrong with the parent of its first as a link.
pub record IsBadLink (b : Branch) (walk : List ℕ) (c : ℕ) (fault : ChainFault) : Type 0 where
  pub walks : IsWalk b walk c
  pub short : length walk ≤ most_changes
  pub parent : Standing
  pub is : parent_standing b (first_of walk) ≡ Some parent
  pub wrong : link_fault b (length walk) parent ≡ Some fault
