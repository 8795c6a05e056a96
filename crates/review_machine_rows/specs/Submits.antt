-- What a submit is told: by the chain of its change, and by how requirements stand for each change of it.
use Rattle.std.specs.Prelude.{ℕ, zero, suc, ◌+◌, ◌≡◌, ◌⊎◌, ◌&&◌, ◌||◌, Bool, true, false, List, [], ◌∷◌, Option, Some, None, option_map, if◌then◌else◌}
use Rattle.{std.specs.Str.bytes_eq, review_words.specs.History.Entry, review_words.specs.History.is_base}
use Rattle.review_words.specs.declared.reply.{Answer.TheVariants.Submitted, Refusal.Refusal}
use Rattle.review_words.specs.declared.reply.Refusal.TheVariants.{ChainOutdated, ChainAbandoned, ChainWip, ChainTooLong, RequirementUnsatisfied}
use Rattle.review_words.specs.declared.reply.Reply.{Reply, TheVariants.Done, TheVariants.Refused}
use Rattle.review_words.specs.declared.shown.State.{State, TheVariants.Merged}
use Rattle.review_chain.specs.{Branches.Branch, Walks.IsBadLink, Walks.IsChain, declared.links.Standing.Standing}
use Rattle.review_chain.specs.declared.links.Standing.TheVariants.{InBranch, PatchSet, Nowhere}
use Rattle.review_chain.specs.declared.walks.ChainFault.{ChainFault}
use Rattle.review_chain.specs.declared.walks.ChainFault.TheVariants.{Outdated, Abandoned, Wip, TooLong}
use Rattle.review_core_rules.specs.Change.{Change, Setting, commit}
use Rattle.review_core_rules.specs.{Facts.IsFirstUnsatisfied, declared.rows.PatchRow.PatchRow}
use Rattle.review_machine_rows.specs.Changes.{Reading, change, change_count, is_for, setting_of, some_change}
use Rattle.review_machine_rows.specs.Links.{link_for}

-- it holds of a change that is there
abbrev pub IsOf : (Change → Type 0) → Option Change → Type 0
IsOf Holds None = ⊥
IsOf Holds (Some c) = Holds c

-- whether a change has joined its branch
abbrev pub is_merged : State → Bool
is_merged Merged = true
is_merged _ = false

-- whether the commit is the current one of a merged change for the branch
abbrev pub is_merged_commit : List ℕ → List ℕ → List ℕ → Change → Bool
is_merged_commit project branch x c = is_for project branch c && (is_merged c.state && bytes_eq (commit c) x)

-- A commit is in a branch where it is a base, or the current commit of a change that joined it.
abbrev pub is_in_branch : Reading → List Entry → List ℕ → List ℕ → List ℕ → Bool
is_in_branch reading h project branch x = is_base h project branch x || some_change reading h (is_merged_commit project branch x) (change_count h)

-- the number of the patch set, after so many, that has the commit
abbrev pub patch_of : ℕ → List PatchRow → List ℕ → Option ℕ
patch_of n [] x = None
patch_of n (p ∷ ps) x = if bytes_eq p.commit x then Some (n + 1) else patch_of (n + 1) ps x

-- the patch set of a change for the branch that has the commit
abbrev pub patch_for : List ℕ → List ℕ → List ℕ → Option Change → Option ℕ
patch_for project branch x None = None
patch_for project branch x (Some c) = if is_for project branch c then patch_of 0 c.patches x else None

-- a patch set of this change, where it has one, and otherwise what was found among others
abbrev pub sent_or : ℕ → Option ℕ → Standing → Standing
sent_or n None otherwise = otherwise
sent_or n (Some k) otherwise = PatchSet n k

-- the patch set of one of the changes up to a number that has the commit, of which every history has at most one
abbrev pub sent_up_to : Reading → List Entry → List ℕ → List ℕ → List ℕ → ℕ → Standing
sent_up_to reading h project branch x zero = Nowhere
sent_up_to reading h project branch x (suc n) = sent_or (suc n) (patch_for project branch x (change reading h (suc n))) (sent_up_to reading h project branch x n)

-- What a commit is to a branch: it is in it, or that of a patch set of a change for it, or neither.
abbrev pub standing_of : Reading → List Entry → List ℕ → List ℕ → List ℕ → Standing
standing_of reading h project branch x = if is_in_branch reading h project branch x then InBranch else sent_up_to reading h project branch x (change_count h)

-- A branch as a submit sees it.
abbrev pub branch_after : Reading → List Entry → List ℕ → List ℕ → Branch
branch_after reading h project branch = record { link = λ n. link_for project branch (change reading h n); standing = λ x. Some (standing_of reading h project branch x) }

-- the refusal for a bad link
abbrev pub refusal_of : ChainFault → Option Refusal
refusal_of Outdated = Some ChainOutdated
refusal_of Abandoned = Some ChainAbandoned
refusal_of Wip = Some ChainWip
refusal_of TooLong = Some ChainTooLong
refusal_of _ = None

-- A submit is refused for the bad link of its change.
pub record HasBadLink (b : Branch) (n : ℕ) (reply : Reply) : Type 0 where
  pub walk : List ℕ
  pub fault : ChainFault
  pub bad : IsBadLink b walk n fault
  pub refusal : Refusal
  pub named : refusal_of fault ≡ Some refusal
  pub reply_is : reply ≡ Refused refusal

-- a change after a history, with the setting that it is judged in
abbrev pub judged_after : Reading → List Entry → ℕ → Option (Setting × Change)
judged_after reading h n = option_map (λ c. (setting_of reading h c.project, c)) (change reading h n)

-- what a submit of a chain is told, by the requirement that was found
abbrev pub checked_reply : List ℕ → Option (ℕ × List ℕ) → Reply
checked_reply chain None = Done (Submitted chain)
checked_reply chain (Some found) = Refused (RequirementUnsatisfied found.0 found.1)

-- A submit is told the chain of its change, or the first requirement that is unsatisfied for a change of it.
pub record HasChain (reading : Reading) (h : List Entry) (b : Branch) (n : ℕ) (reply : Reply) : Type 0 where
  pub chain : List ℕ
  pub is_chain : IsChain b chain n
  pub found : Option (ℕ × List ℕ)
  pub checked : IsFirstUnsatisfied (judged_after reading h) chain found
  pub reply_is : reply ≡ checked_reply chain found

-- What a submit of a change is told that no check of the change refuses.
abbrev pub IsSubmitAnswer : Reading → List Entry → ℕ → Change → Reply → Type 0
IsSubmitAnswer reading h n c reply =
    HasBadLink (branch_after reading h c.project c.branch) n reply ⊎ HasChain reading h (branch_after reading h c.project c.branch) n reply
