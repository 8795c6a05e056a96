-- What may be relied on of branches.
use Rattle.std.specs.List.{All, IsDistinct}
use Rattle.std.specs.Prelude.{◌≡◌, ◌==◌, ℕ, List, ◌∷◌, ◌++◌, Some}
use Rattle.review_words.specs.{History.Entry, declared.command.Command.TheVariants.Submit, declared.reply.Answer.Answer}
use Rattle.{review_words.specs.declared.reply.Reply.TheVariants.Done, review_core_rules.specs.Change.Change}
use Rattle.review_machine_rows.specs.Changes.{Reading, Reads, change, joined, joined_in, place_in}
use Rattle.review_machine_laws.specs.{Accepted.MayJoin, Joined.HasJoined, Parents.StandsOn, Places.place_of}

-- Each change that joined a branch did so once, is for the branch and merged, has its place, and stands on a base of the branch or on a change that joined before it.
pub record IsSoundBranch (reading : Reading) (h : List Entry) (project branch : List ℕ) : Type 0 where
  pub once : IsDistinct ◌==◌ (joined h project branch)
  pub merged : All (HasJoined reading h project branch) (joined h project branch)
  pub placed : (n : ℕ) → place_in (joined h project branch) n ≡ place_of project branch (change reading h n)
  pub stands : (front : List ℕ) (n : ℕ) (back : List ℕ) → joined h project branch ≡ front ++ n ∷ back → StandsOn reading h project branch front n

-- Each change that an accepted submit joined was open, not in work in progress and without an unsatisfied requirement just before.
abbrev pub WereReady : Reading → List Entry → Type 0
WereReady reading h = (later : List Entry) (e : Entry) (earlier : List Entry) (n : ℕ) (a : Answer) (c : Change) → h ≡ later ++ e ∷ earlier → e.command ≡ Submit n → e.reply ≡ Done a → change reading earlier n ≡ Some c →
    All (MayJoin reading earlier c.project c.branch) (joined_in (Done a))

-- Every branch of the history is sound, and what joined was ready.
pub record AreSoundBranches (h : List Entry) : Type 0 where
  pub branches : (reading : Reading) → Reads reading h → (project branch : List ℕ) → IsSoundBranch reading h project branch
  pub ready : (reading : Reading) → Reads reading h → WereReady reading h
