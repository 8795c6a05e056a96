-- What a delivery and a run of deliveries do, over any shelf: on the tables of a history, and on any tables whatever.
use Rattle.std.specs.Prelude.{◌≡◌, ℕ, List, [], ◌∷◌, length, Some}
use Rattle.review_words.specs.{History.Entry, declared.command.Delivery.Delivery, declared.reply.Reply.Reply}
use Rattle.{review_core_rules.specs.Change.Change, review_machine_rows.specs.Answer.IsHistory}
use Rattle.review_machine_rows.specs.Changes.{Reading, Reads, change, setting_of}
use Rattle.review_machine_rows.specs.Shelf.{Shown, Views}
use Rattle.review_core_standing.specs.Counting.{CountsEachOnce}
use Rattle.review_machine_laws.specs.{SoundBranches.AreSoundBranches, SoundProjects.AreSoundProjects}
use Rattle.review_machine_deliveries.specs.Formed.{AllFormed, AreFormed, IsFormed}
use Rattle.review_machine_deliveries.specs.Replies.{IsServed, IsRun, AreSteps, KeepsUntaken, StoresOnce, CountsReply, CountsReplies, StopGoesOnFrom, StopHasEntry, history_after}

-- One delivery got this reply. What is said of tables is said where the store returned what was written to it.
pub record IsDelivered (d : Delivery) (reply : Reply) (old new : Shown) : Type 0 where
  -- the identity of a request has its forms, so from a history in which each has them comes one in which each has them
  pub formed : IsFormed d
  pub goes_on : (h : List Entry) → AreFormed h → AreFormed (history_after h (d ∷ []) (reply ∷ []))
  pub honest : new.is_honest → old.is_honest
  -- from the tables of a history, the right reply and the tables of the history after it
  pub served : new.is_honest → (h : List Entry) → IsHistory h → Views h old.tables → IsServed h d reply old new
  -- on any tables whatever
  pub unchanged : new.is_honest → KeepsUntaken d reply old.tables new.tables
  pub once : new.is_honest → StoresOnce d reply old.tables new.tables
  pub counted : CountsReply reply old.faults new.faults
  -- a stop leaves tables from which the history goes on; after Done and Refused, those of a history that has the request
  pub stopped : new.is_honest → (h : List Entry) → IsHistory h → Views h old.tables → StopGoesOnFrom h old →
      StopGoesOnFrom (history_after h (d ∷ []) (reply ∷ [])) new × StopHasEntry d reply new

-- For each change of the history each `label:` term counts an account at most once.
abbrev pub CountsVotesOnce : List Entry → Type 0
CountsVotesOnce h = (reading : Reading) → Reads reading h → (n : ℕ) (c : Change) → change reading h n ≡ Some c → CountsEachOnce (setting_of reading h c.project) c

-- Deliveries, one after the other, got these replies.
pub record WasRun (ds : List Delivery) (replies : List Reply) (old new : Shown) : Type 0 where
  pub each : length replies ≡ length ds
  -- the identity of each request has its forms, so from a history in which each has them comes one in which each has them
  pub formed : AllFormed ds
  pub goes_on : (h : List Entry) → AreFormed h → AreFormed (history_after h ds replies)
  pub honest : new.is_honest → old.is_honest
  -- from the tables of any history, right replies and the tables of the history in which each request stands once, at the first arrival that is taken while its epoch is open
  pub acts_once : new.is_honest → (h : List Entry) → IsHistory h → Views h old.tables → IsRun h ds replies old new
  -- of the history that it leaves: each change joined its branch once, at its place, after what it stands on, and was ready just before
  pub branches : new.is_honest → (h : List Entry) → IsHistory h → Views h old.tables → AreSoundBranches (history_after h ds replies)
  -- and each line of projects ends, no effective file has lost a label or a value, its requirements name its labels, and each vote is on one, with a value of it
  pub projects : new.is_honest → (h : List Entry) → IsHistory h → Views h old.tables → AreSoundProjects (history_after h ds replies)
  -- and for each change of it each `label:` term counts an account at most once
  pub votes : new.is_honest → (h : List Entry) → IsHistory h → Views h old.tables → CountsVotesOnce (history_after h ds replies)
  -- on any tables whatever, made of steps, one a delivery
  pub steps : new.is_honest → AreSteps ds replies old.tables new.tables
  -- on any shelf whatever, store faults are told only where they were counted
  pub counted : CountsReplies replies old.faults new.faults
