-- Branches of which a part is known, and what has to be looked up.
use Rattle.std.specs.Prelude.{◌≡◌, ◌⊎◌, ℕ, ◌<◌, ◌≤◌, List, length, Some, None, IsSome, option_map}
use Rattle.review_chain.specs.Branches.{Branch, parent_standing}
use Rattle.review_chain.specs.Walks.{IsWalk, first_of, most_changes}
use Rattle.review_chain.specs.declared.links.{Link.Link, Standing.Standing, Standing.TheVariants.PatchSet}
use Rattle.review_chain.specs.declared.walks.Walked.{Walked}

-- What can be looked up: the link of a change, and what a commit is to the branch.
pub data Want : Type 0 where
  TheChange : ℕ → Want
  TheCommit : List ℕ → Want

-- It was looked up.
abbrev pub Knows : Branch → Want → Type 0
Knows b (TheChange d) = IsSome (b.link d)
Knows b (TheCommit x) = IsSome (b.standing x)

-- A change is needed before a walk of n changes that begins at c: c itself, or where fewer than 100 are there the change whose patch set is c's parent.
abbrev pub NeedsChange : Branch → ℕ → ℕ → ℕ → Type 0
NeedsChange b n c d = (d ≡ c) ⊎ ((n < most_changes) × (patch : ℕ) × (parent_standing b c ≡ Some (PatchSet d patch)))

-- It is needed before a walk of n changes that begins at c, and isn't known.
abbrev pub Lacks : Branch → ℕ → ℕ → Want → Type 0
Lacks b n c (TheChange d) = (b.link d ≡ None) × NeedsChange b n c d
Lacks b n c (TheCommit x) = (b.standing x ≡ None) × (option_map (λ l. l.parent) (b.link c) ≡ Some x)

-- Wanted: what a walk to a change needs to go on, and isn't known.
pub record IsWanted (b : Branch) (walk : List ℕ) (c : ℕ) (want : Want) : Type 0 where
  pub walks : IsWalk b walk c
  pub short : length walk ≤ most_changes
  pub lacks : Lacks b (length walk) (first_of walk) want

-- There is such a walk to the change: of so many changes, of which this one stands first.
pub record HasWalked (b : Branch) (w : Walked) : Type 0 where
  pub walk : List ℕ
  pub walks : IsWalk b walk w.change
  pub begins : first_of walk ≡ w.first
  pub counted : length walk ≡ w.count
  pub short : w.count ≤ most_changes

-- Nothing is wanted for the chain of a change.
abbrev pub IsDecided : Branch → ℕ → Type 0
IsDecided b c = (walk : List ℕ) (want : Want) → IsWanted b walk c want → ⊥

-- What a part knows of a branch is so in the whole.
pub record IsPart (part whole : Branch) : Type 0 where
  pub link : (c : ℕ) (l : Link) → part.link c ≡ Some l → whole.link c ≡ Some l
  pub standing : (x : List ℕ) (s : Standing) → part.standing x ≡ Some s → whole.standing x ≡ Some s
