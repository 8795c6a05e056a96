-- The edit that an edited change gives.
use Rattle.std.specs.Ordering.{nat_cmp}
use Rattle.std.specs.Prelude.{◌≡◌, ◌+◌, ◌∷◌, [], ℕ, List, Some, length}
use Rattle.review_table.specs.{Rows.place_at, Rows.row_edit_of, declared.table.RowEdit.RowEdit}
use Rattle.review_core_rules.specs.Seen.{vote_cmp}
use Rattle.review_core_rules.specs.declared.{edited_change.EditedChange.EditedChange, rows.VoteKey.VoteKey}
use Rattle.review_machine_rows.specs.declared.rows.ChangeEdit.{ChangeEdit}

-- the edits that put rows under the numbers after one
abbrev pub puts_after : {X : Type 0} → ℕ → List X → List (RowEdit ℕ X)
puts_after n [] = []
puts_after n (x ∷ xs) = record { key = n + 1; row = Some x } ∷ puts_after (n + 1) xs

-- beside the header an edit names the rows that were noted of an edited change, and no others
pub record HasNoted (d : EditedChange) (e : ChangeEdit) : Type 0 where
  pub patches : e.patches.items ≡ puts_after (length d.rows.now.patches.items) d.patches.items
  pub votes : (q : VoteKey) → row_edit_of vote_cmp e.votes.items q ≡ place_at vote_cmp d.votes.edits.entries q
  pub roles : (u : ℕ) → row_edit_of nat_cmp e.roles.items u ≡ place_at nat_cmp d.roles.edits.entries u
  pub comments : e.comments.items ≡ puts_after (length d.rows.now.comments.items) d.comments.items
  pub attention : (u : ℕ) → row_edit_of nat_cmp e.attention.items u ≡ place_at nat_cmp d.attention.edits.entries u
