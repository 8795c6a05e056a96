-- What an accepted submit joins.
use Rattle.std.specs.List.{All}
use Rattle.std.specs.Prelude.{◌≡◌, ℕ, List, Some, None, true, false}
use Rattle.review_words.specs.{History.Entry, declared.reply.Answer.Answer, declared.reply.Answer.TheVariants.Submitted}
use Rattle.review_words.specs.declared.shown.{ShownRequirement.ShownRequirement, State.TheVariants.New}
use Rattle.review_chain.specs.Walks.{IsChain}
use Rattle.review_core_rules.specs.Change.{Change, is_open}
use Rattle.review_core_rules.specs.Facts.{AreStanding, IsFirstUnsatisfied, is_unsatisfied}
use Rattle.review_machine_rows.specs.Changes.{Reading, change, setting_of}
use Rattle.review_machine_rows.specs.Submits.{branch_after, judged_after}

-- A submit was accepted: its change was open and not in work in progress, its chain joined, and no requirement of a change of it was unsatisfied.
pub record IsAccepted (reading : Reading) (h : List Entry) (m : ℕ) (a : Answer) : Type 0 where
  pub of : Change
  pub there : change reading h m ≡ Some of
  pub was_open : is_open of.state ≡ true
  pub was_ready : of.wip ≡ false
  pub chain : List ℕ
  pub is_chain : IsChain (branch_after reading h of.project of.branch) chain m
  pub satisfied : IsFirstUnsatisfied (judged_after reading h) chain None
  pub told : a ≡ Submitted chain

-- A change may join its branch: it is open and not in work in progress, and none of its requirements is unsatisfied.
pub record MayJoin (reading : Reading) (h : List Entry) (project branch : List ℕ) (n : ℕ) : Type 0 where
  pub of : Change
  pub there : change reading h n ≡ Some of
  pub for_project : of.project ≡ project
  pub for_branch : of.branch ≡ branch
  pub is_open : of.state ≡ New
  pub is_ready : of.wip ≡ false
  pub shown : List ShownRequirement
  pub are_standing : AreStanding (setting_of reading h of.project) of shown
  pub satisfied : All (λ requirement. is_unsatisfied requirement.status ≡ false) shown
