-- The answer to a question.
use Rattle.std.specs.Option.{option_map_or}
use Rattle.std.specs.Prelude.{ℕ, ◌≡◌, List, [], ◌∷◌, Option, Bool, is_some, map, MatchOption}
use Rattle.review_words.specs.History.{Entry, is_account, is_project, bases, is_branch}
use Rattle.review_words.specs.declared.command.Query.{Query}
use Rattle.review_words.specs.declared.reply.{Answer.Answer, Answer.TheVariants.Branch, Refusal.Refusal}
use Rattle.review_words.specs.declared.reply.Refusal.TheVariants.{UnknownCaller, NoProject, NoBranch, NoChange}
use Rattle.review_words.specs.declared.reply.Reply.{Reply, TheVariants.Done, TheVariants.Refused}
use Rattle.review_words.specs.declared.shown.JoinedChange.{JoinedChange}
use Rattle.review_core_rules.specs.{Change.commit, Shown.IsToldOf}
use Rattle.review_machine_rows.specs.Answer.{IsOf, first_refusal}
use Rattle.review_machine_rows.specs.Changes.{Reading, Reads, change, joined, setting_of}
use Rattle.review_words.specs.declared.command.Query.TheVariants as asked

-- the checks of a question in their order
abbrev pub query_checks : Reading → List Entry → Query → List (Bool × Refusal)
query_checks reading h (asked.Branch project branch) = (is_project h project, NoProject) ∷ (is_branch h project branch, NoBranch) ∷ []
query_checks reading h (asked.OnChange n query) = (is_some (change reading h n), NoChange) ∷ []

-- what refuses a question: that the caller is no account, before all others, or the first of its checks that fails
abbrev pub query_refused_by : Reading → List Entry → ℕ → Query → Option Refusal
query_refused_by reading h caller query = first_refusal ((is_account h caller, UnknownCaller) ∷ query_checks reading h query)

-- a change that joined a branch, with its current commit
abbrev pub joined_change : Reading → List Entry → ℕ → JoinedChange
joined_change reading h n = record { change = n; commit = option_map_or commit (change reading h n) [] }

-- what a question is told that no check refuses
abbrev pub IsToldTo : Reading → List Entry → Query → Answer → Type 0
IsToldTo reading h (asked.Branch project branch) told = told ≡ Branch (bases h project branch) (map (joined_change reading h) (joined h project branch))
IsToldTo reading h (asked.OnChange n query) told = IsOf (λ c. IsToldOf (setting_of reading h c.project) n query c told) (change reading h n)

-- The reply is an answer to the question, by what is read of the texts that were put.
abbrev pub IsQueryAnswerBy : Reading → List Entry → ℕ → Query → Reply → Type 0
IsQueryAnswerBy reading h caller query reply =
    MatchOption (query_refused_by reading h caller query) ((told : Answer) × IsToldTo reading h query told × (reply ≡ Done told)) (λ refusal. reply ≡ Refused refusal)

-- The reply is an answer to the question, where each text that was put is read right.
abbrev pub IsQueryAnswer : List Entry → ℕ → Query → Reply → Type 0
IsQueryAnswer h caller query reply = (reading : Reading) → Reads reading h → IsQueryAnswerBy reading h caller query reply
