-- Edits beside the tables of a change.
use Rattle.std.specs.{Ordering.nat_cmp, Prelude.ℕ, Prelude.ℤ, Prelude.List, Prelude.Option, Prelude.◌≡◌}
use Rattle.review_table.specs.{Edited.edited_row, declared.edited.Edited.Edited}
use Rattle.review_words.specs.declared.changes.Role.{Role}
use Rattle.review_core_rules.specs.Seen.{value_of, vote_cmp}
use Rattle.review_core_rules.specs.declared.rows.{AttentionEntry.AttentionEntry, ChangeRows.ChangeRows, VoteKey.VoteKey}

-- the row of an account once the edits are made
abbrev pub edited_account : {X : Type 0} → Edited ℕ X → ℕ → Option X
edited_account e u = edited_row nat_cmp e u

-- the vote of an account on a label of a patch set once the edits are made
abbrev pub edited_vote : Edited VoteKey ℤ → ℕ → List ℕ → ℕ → ℤ
edited_vote e n l a = value_of (edited_row vote_cmp e (record { patch = n; label = l; account = a }))

-- the edits are of the tables of these rows
pub record IsOver (rows : ChangeRows) (votes : Edited VoteKey ℤ) (roles : Edited ℕ Role) (attention : Edited ℕ AttentionEntry) : Type 0 where
  pub votes_are : votes.rows.now ≡ rows.votes
  pub roles_are : roles.rows.now ≡ rows.roles
  pub attention_is : attention.rows.now ≡ rows.attention
