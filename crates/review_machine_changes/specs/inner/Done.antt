-- What a request on a change that no check refuses makes of it, its answer, and how far a grant reaches: words that only proofs and private clauses use.
use Rattle.std.specs.Prelude.{[], Bool, true, false, Option, Some, None, ℕ, ℤ, pos, List, ◌∷◌, ◌+◌, length, zero, suc, ◌≡◌, unwrap_or, int_le, int_lt, if◌then◌else◌}
use Rattle.review_words.specs.declared.changes.{NewPatch.NewPatch, Review.Review as ReviewOf}
use Rattle.review_words.specs.declared.command.ChangeCommand.{ChangeCommand, TheVariants.Review, TheVariants.Upload}
use Rattle.review_words.specs.declared.reply.Answer.TheVariants.{Nothing, Patch, Reviewed}
use Rattle.review_words.specs.declared.reply.Reply.{Reply, TheVariants.Done}
use Rattle.review_file_rules.specs.{Inherited.no_file, declared.parts.Grant.Grant}
use Rattle.review_core_rules.specs.Change.{Change, after, after_plain, carried, copying, current, is_lost, said}
use Rattle.review_core_rules.specs.{Counts.AreMany, Votes.voted}
use Rattle.review_machine_rows.specs.{Files.File, Steps.needs_file, declared.rows.Delta.Delta, declared.rows.Rows.Rows}
use Rattle.review_machine_changes.specs.Deltas.{MakesChange, next_request, setting_in}

-- it is neither a new patch set nor a review
abbrev pub is_plain : ChangeCommand → Bool
is_plain (Upload patch) = false
is_plain (Review review) = false
is_plain _ = true

-- it is judged by the project's file, and there is none
abbrev pub lacks_file : Option File → ChangeCommand → Bool
lacks_file None request = needs_file request
lacks_file (Some file) request = false

-- a value below 0 isn't below a grant's least value, and another one not above its greatest
abbrev pub reaches : ℤ → Grant → Bool
reaches value g = if int_lt value (pos 0) then int_le g.least value else int_le value g.greatest

-- so many numbers after one
abbrev pub next_numbers : ℕ → ℕ → List ℕ
next_numbers n zero = []
next_numbers n (suc k) = (n + 1) ∷ next_numbers (n + 1) k

-- a review is done: the change becomes what it makes of it, and the new comments have the next numbers
pub record IsReviewed (n : ℕ) (r : ReviewOf) (caller : ℕ) (rows : Rows) (c : Change) (delta : Delta) (reply : Reply) : Type 0 where
  pub made : MakesChange n c (after_plain (Review r) caller (next_request rows) c) delta
  pub reply_is : reply ≡ Done (Reviewed (next_numbers (length c.comments) (length (said r))))

-- a new patch set is done: the change becomes what it makes of it, and the answer has the numbers of votes that were copied and that weren't
pub record IsUploaded (file : File) (n : ℕ) (p : NewPatch) (caller : ℕ) (rows : Rows) (c : Change) (delta : Delta) (reply : Reply) : Type 0 where
  pub made : MakesChange n c (after (setting_in file rows) (Upload p) caller (next_request rows) c) delta
  pub copied : ℕ
  pub outdated : ℕ
  pub many_copied : AreMany (λ l u. voted (carried (copying (setting_in file rows) (Upload p) caller c) c l u)) copied
  pub many_outdated : AreMany (λ l u. is_lost (copying (setting_in file rows) (Upload p) caller c) c u l) outdated
  pub reply_is : reply ≡ Done (Patch n (current c + 1) copied outdated)

-- such a request is done: the change becomes what it makes of it
pub record IsPlainlyDone (n : ℕ) (request : ChangeCommand) (caller : ℕ) (rows : Rows) (c : Change) (delta : Delta) (reply : Reply) : Type 0 where
  pub made : MakesChange n c (after_plain request caller (next_request rows) c) delta
  pub reply_is : reply ≡ Done Nothing

-- a request that no check refuses is done, by the file that was read
abbrev pub IsDone : Option File → ℕ → ChangeCommand → ℕ → Rows → Change → Delta → Reply → Type 0
IsDone file n (Upload patch) caller rows c delta reply = IsUploaded (unwrap_or file no_file) n patch caller rows c delta reply
IsDone file n (Review review) caller rows c delta reply = IsReviewed n review caller rows c delta reply
IsDone file n request caller rows c delta reply = IsPlainlyDone n request caller rows c delta reply
