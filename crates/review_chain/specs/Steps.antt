-- One step back from a change.
use Rattle.std.specs.Option.{option_map_or}
use Rattle.std.specs.Prelude.{ℕ, List, Option, Some, None, ◌==◌, if◌then◌else◌, zero, suc, ◌-◌, ◌+◌, ◌*◌}
use Rattle.review_chain.specs.{Branches.Branch, Parts.Want, Parts.IsWanted, Parts.TheChange, Parts.TheCommit}
use Rattle.review_chain.specs.Walks.{IsBadLink, patch_set_fault, most_changes}
use Rattle.review_chain.specs.declared.links.{Link.Link, Standing.Standing}
use Rattle.review_chain.specs.declared.links.Standing.TheVariants.{InBranch, PatchSet, Nowhere}
use Rattle.review_chain.specs.declared.walks.ChainFault.{ChainFault}
use Rattle.review_chain.specs.declared.walks.ChainFault.TheVariants.{Memory, Unknown, TooLong, Broken}
use Rattle.review_chain.specs.declared.walks.LookUp.{LookUp}
use Rattle.review_chain.specs.declared.walks.LookUp.TheVariants.{Change as LookUpChange, Commit as LookUpCommit}

-- Why a change has no chain that is known: something is wanted, or a bad link of this name; want of memory may come at any time.
abbrev pub IsFault : Branch → ℕ → ChainFault → Type 0
IsFault b c Memory = Unit {0}
IsFault b c Unknown = (walk : List ℕ) × (want : Want) × IsWanted b walk c want
IsFault b c fault = (walk : List ℕ) × IsBadLink b walk c fault

-- what the code says is wanted
abbrev pub want_of : LookUp → Want
want_of (LookUpChange d) = TheChange d
want_of (LookUpCommit x) = TheCommit x

-- what stands before the first change of a walk: the branch, a change, a bad link, or something that isn't known
pub data Before : Type 0 where
  TheBase : Before
  Change : ℕ → Before
  Bad : ChainFault → Before
  Wants : Want → Before

-- what stands before, by the fault of a patch set of a change
abbrev pub before_fault : ℕ → Option ChainFault → Before
before_fault d None = Change d
before_fault d (Some fault) = Bad fault

-- what stands before, where it is a patch set of a change
abbrev pub before_change : ℕ → ℕ → Option Link → Before
before_change d patch None = Wants (TheChange d)
before_change d patch (Some l) = before_fault d (patch_set_fault patch l)

-- what stands before, where it is known what the parent is to the branch
abbrev pub before_known : Branch → ℕ → Standing → Before
before_known b n InBranch = TheBase
before_known b n (PatchSet d patch) = if n == most_changes then Bad TooLong else before_change d patch (b.link d)
before_known b n Nowhere = Bad Broken

-- what stands before, by what is known of the parent
abbrev pub before_parent : Branch → ℕ → List ℕ → Option Standing → Before
before_parent b n x None = Wants (TheCommit x)
before_parent b n x (Some s) = before_known b n s

-- what stands before, by the link of the first change
abbrev pub before_link : Branch → ℕ → ℕ → Option Link → Before
before_link b n c None = Wants (TheChange c)
before_link b n c (Some l) = before_parent b n l.parent (b.standing l.parent)

-- what stands before a walk of n changes that begins at c
abbrev pub before : Branch → ℕ → ℕ → Before
before b n c = before_link b n c (b.link c)

-- what is wanted, by what stands before
abbrev pub wanted_by : Before → (ℕ → Option Want) → Option Want
wanted_by TheBase further = None
wanted_by (Change d) further = further d
wanted_by (Bad fault) further = None
wanted_by (Wants want) further = Some want

-- what is wanted from a change on, before which so many may stand
unfoldable pub wanted_from : Branch → ℕ → ℕ → Option Want
wanted_from b zero c = wanted_by (before b most_changes c) (λ d. None)
wanted_from b (suc more) c = wanted_by (before b (most_changes - suc more) c) (λ d. wanted_from b more d)

-- What is wanted for the chain of a change: what the walk to it needs to go on, and isn't known.
abbrev pub wanted : Branch → ℕ → Option Want
wanted b c = wanted_from b 99 c

-- how many look-ups may be made where twice as many as this come with the changes further back, by what stands before
abbrev pub left_by : ℕ → Before → (ℕ → ℕ) → ℕ
left_by twice TheBase further = 0
left_by twice (Change d) further = further d
left_by twice (Bad fault) further = 0
left_by twice (Wants (TheChange d)) further = twice
left_by twice (Wants (TheCommit x)) further = twice + 1

-- how many look-ups may be made from a change on whose link is known, before which so many may stand
unfoldable pub left_from : Branch → ℕ → ℕ → ℕ
left_from b zero c = left_by 0 (before b most_changes c) (λ d. 0)
left_from b (suc more) c = left_by (2 * more + 2) (before b (most_changes - suc more) c) (λ d. left_from b more d)

-- How many look-ups may still be made for the chain of a change: 200 where nothing is known of it.
abbrev pub left : Branch → ℕ → ℕ
left b c = option_map_or (λ (l : Link). left_from b 99 c) (b.link c) 200
