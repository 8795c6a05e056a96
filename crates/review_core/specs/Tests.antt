-- What is tested of stored rows, one by one.
use Rattle.std.specs.Prelude.{ℕ, Bool, ◌&&◌, nat_le, ℤ, not, ◌||◌, ◌==◌, Option, is_some}
use Rattle.review_names.specs.Forms.{is_within, most_comments, most_patches}
use Rattle.{review_words.specs.declared.changes.Role.Role, review_core_rules.specs.Votes.voted}
use Rattle.review_core_rules.specs.declared.rows.{AttentionEntry.AttentionEntry, VoteKey.VoteKey}

-- there are so many patch sets and comments as there may be
abbrev pub are_counted : ℕ → ℕ → Bool
are_counted patches comments = is_within most_patches patches && nat_le comments most_comments

-- a vote is on a patch set that is there, and who voted on the current one has a role
abbrev pub is_in_place : ℕ → (ℕ → Option Role) → VoteKey × ℤ → Bool
is_in_place current role e = not (voted e.1) || (is_within current e.0.patch && (not (e.0.patch == current) || is_some (role e.0.account)))

-- who is called is eligible
abbrev pub is_called_in_place : ℕ → ℕ → (ℕ → Option Role) → ℕ × AttentionEntry → Bool
is_called_in_place owner uploader role e = (owner == e.0) || ((uploader == e.0) || is_some (role e.0))
