-- What is known of the changes for a branch.
use Rattle.std.specs.Prelude.{◌≡◌, ◌≢◌, ℕ, List, Option, Some, IsSome, option_and_then}
use Rattle.{review_words.specs.declared.shown.State.TheVariants.Merged, review_chain.specs.declared.links.Link.Link}
use Rattle.review_chain.specs.declared.links.Standing.{Standing, TheVariants.InBranch, TheVariants.PatchSet}

-- What is known of a branch: the link of a change, and what a commit is to the branch; none where nothing is known.
pub record Branch : Type 0 where
  pub link : ℕ → Option Link
  pub standing : List ℕ → Option Standing

-- what is known of the current parent of a change
abbrev pub parent_standing : Branch → ℕ → Option Standing
parent_standing b c = option_and_then (λ l. b.standing l.parent) (b.link c)

-- The parent of each change is in the branch or the commit of a patch set of a change, and the current commit of a merged change is in the branch.
pub record IsWhole (b : Branch) : Type 0 where
  pub based : (c : ℕ) (l : Link) → b.link c ≡ Some l → b.standing l.parent ≢ Some InBranch → (d k : ℕ) × (b.standing l.parent ≡ Some (PatchSet d k)) × IsSome (b.link d)
  pub merged : (x : List ℕ) (d k : ℕ) (l : Link) → b.standing x ≡ Some (PatchSet d k) → b.link d ≡ Some l → l.state ≡ Merged → k ≢ l.patch
