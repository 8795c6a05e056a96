-- What a request on a change is judged by, and the delta that makes of the change another.
use Rattle.std.specs.Prelude.{[], ℕ, ◌≡◌, ◌∷◌, ◌+◌, min}
use Rattle.review_table.specs.Rows.{after_row_edit}
use Rattle.review_core_rules.specs.{Change.Change, Change.Setting, Parts.Part, Parts.part_row}
use Rattle.review_core_tables.specs.Copies.{group_list}
use Rattle.review_machine_rows.specs.{Files.File, Known.known, Known.number_of, Rows.part_change}
use Rattle.review_machine_rows.specs.declared.rows.{ChangeEdit.ChangeEdit, Delta.Delta, Rows.Rows}
use Rattle.review_machine_accounts.specs.Decisions.{EditsChanges}
use Rattle.review_machine_rows.specs.declared.rows.Want.TheVariants as want

-- one more, up to the greatest value of its type
abbrev pub next_request : Rows → ℕ
next_request rows = min (number_of (known rows want.Requests) + 1) 18446744073709551615

-- a delta turns the rows of a change into those of another, and does nothing else
pub record MakesChange (n : ℕ) (before new : Change) (delta : Delta) : Type 0 where
  pub edit : ChangeEdit
  pub edits : EditsChanges (edit ∷ []) delta
  pub named : edit.change ≡ n
  pub becomes : (part : Part) → after_row_edit (part_change edit part) (part_row before part) ≡ part_row new part

-- what the requests on a project's changes are judged by: its file, and the groups that rows know
abbrev pub setting_in : File → Rows → Setting
setting_in file rows = record { file = file; groups = group_list rows.groups }
