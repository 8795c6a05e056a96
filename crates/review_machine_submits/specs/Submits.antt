-- What rows tell of a submit.
use Rattle.std.specs.Prelude.{[], ℕ, List, ◌∷◌, Option, IsSome, option_map, ◌≡◌, Some, None, ◌+◌, ◌<◌, ◌^◌, map, length}
use Rattle.{review_table.specs.Rows.after_row_edit, review_words.specs.declared.reply.Reply.Reply}
use Rattle.review_chain.specs.{Places.places_from, Walks.IsChain}
use Rattle.review_core_rules.specs.Change.{Change, Setting, joined_at}
use Rattle.review_core_rules.specs.{Facts.IsFirstUnsatisfied, Parts.Part, Parts.part_row, Sound.IsSound}
use Rattle.review_machine_rows.specs.{Files.File, Known.known, Known.change_in, Known.number_of, Links.links_in}
use Rattle.review_machine_rows.specs.{Rows.part_change, Submits.checked_reply}
use Rattle.review_machine_rows.specs.declared.rows.{ChangeEdit.ChangeEdit, Delta.Delta, Rows.Rows}
use Rattle.review_machine_accounts.specs.Decisions.{EditsChanges, IsEmpty}
use Rattle.review_machine_changes.specs.Deltas.{setting_in, next_request}
use Rattle.review_machine_rows.specs.declared.rows.Want.TheVariants as want

-- the change of a number, as rows know it
abbrev pub change_at : Rows → ℕ → Option Change
change_at rows n = change_in (known rows (want.Change n))

-- rows know a change of the number
abbrev pub IsThere : Rows → ℕ → Type 0
IsThere rows n = IsSome (change_at rows n)

-- a change with what it is judged by, as rows know them
abbrev pub judged_in : File → Rows → ℕ → Option (Setting × Change)
judged_in file rows n = option_map (λ c. (setting_in file rows, c)) (change_at rows n)

-- an edit makes of a change what joining its branch at a place makes of it
pub record IsJoinEdit (rows : Rows) (request n place : ℕ) (e : ChangeEdit) : Type 0 where
  pub of : Change
  pub there : change_at rows n ≡ Some of
  pub named : e.change ≡ n
  pub becomes : (part : Part) → after_row_edit (part_change e part) (part_row of part) ≡ part_row (joined_at place request of) part

-- each edit makes the change join that has its place
abbrev pub AreJoinEdits : Rows → ℕ → List (ℕ × ℕ) → List ChangeEdit → Type 0
AreJoinEdits rows request [] [] = Unit {0}
AreJoinEdits rows request (j ∷ js) (e ∷ es) = IsJoinEdit rows request j.0 j.1 e × AreJoinEdits rows request js es
AreJoinEdits rows request js es = ⊥

-- the last place that a change joined the branch of a change at, as rows know it
abbrev pub last_in : Rows → Change → ℕ
last_in rows c = number_of (known rows (want.LastJoined (record { project = c.project; branch = c.branch })))

-- a delta makes the changes of a chain join their branch at the next places
pub record JoinsChain (rows : Rows) (c : Change) (chain : List ℕ) (delta : Delta) : Type 0 where
  pub joined : List (ℕ × ℕ)
  pub order : map (λ j. j.0) joined ≡ chain
  pub places : last_in rows c + length chain < 2 ^ 32 → joined ≡ places_from (last_in rows c + 1) chain
  pub edits : List ChangeEdit
  pub are : AreJoinEdits rows (next_request rows) joined edits
  pub only : EditsChanges edits delta

-- a submit that is refused for a requirement changes nothing, and otherwise its chain joins
abbrev pub Makes : Rows → Change → List ℕ → Option (ℕ × List ℕ) → Delta → Type 0
Makes rows c chain None delta = JoinsChain rows c chain delta
Makes rows c chain (Some found) delta = IsEmpty delta

-- a submit is told the chain of its change, or the first requirement that is unsatisfied for a change of it
pub record IsChecked (file : File) (rows : Rows) (n : ℕ) (c : Change) (delta : Delta) (reply : Reply) : Type 0 where
  pub chain : List ℕ
  pub is_chain : IsChain (links_in rows c.project c.branch) chain n
  pub found : Option (ℕ × List ℕ)
  pub checked : IsFirstUnsatisfied (judged_in file rows) chain found
  pub reply_is : reply ≡ checked_reply chain found
  pub made : Makes rows c chain found delta

-- rows know a change that isn't sound
abbrev pub HasUnsound : Rows → Type 0
HasUnsound rows = (n : ℕ) × (c : Change) × (change_at rows n ≡ Some c) × (IsSound c → ⊥)
