-- What is true of every change.
use Rattle.std.specs.{List.list_all, Option.option_map_or}
use Rattle.std.specs.Prelude.{ℕ, ◌≡◌, ◌+◌, Bool, true, ◌&&◌, nat_le, nat_lt, List, [], ◌∷◌, length, is_some}
use Rattle.review_names.specs.Forms.{is_within, most_patches, most_comments}
use Rattle.review_words.specs.declared.{changes.NewComment.NewComment, command.ChangeCommand.ChangeCommand}
use Rattle.review_words.specs.declared.command.ChangeCommand.TheVariants.{Upload, Review, AddAttention}
use Rattle.review_core_rules.specs.Change.{Change, current, eligible, reviewed, said}
use Rattle.review_core_rules.specs.{Votes.voted, declared.rows.CommentRow.CommentRow}

-- comments, of which so many come before, are on these many patch sets, and each answers none but an earlier one
abbrev pub are_in_order : ℕ → ℕ → List CommentRow → Bool
are_in_order patches before [] = true
are_in_order patches before (x ∷ xs) = is_within patches x.patch && (option_map_or (λ k. is_within before k) x.answers true && are_in_order patches (before + 1) xs)

-- There is a patch set, and no more of them and of comments than their numbers reach. Votes and comments are on patch sets that are there, and an answer is to an earlier comment. Who voted on the current patch set has a role, and who is in the attention set is eligible.
pub record IsSound (c : Change) : Type 0 where
  pub patches : is_within most_patches (current c) ≡ true
  pub comments : nat_le (length c.comments) most_comments ≡ true
  pub on_patches : (n : ℕ) (l : List ℕ) (a : ℕ) → voted (c.vote n l a) ≡ true → is_within (current c) n ≡ true
  pub in_order : are_in_order (current c) 0 c.comments ≡ true
  pub voters : (l : List ℕ) (a : ℕ) → voted (c.vote (current c) l a) ≡ true → is_some (c.role a) ≡ true
  pub attending : (u : ℕ) → is_some (c.attention u) ≡ true → eligible c u ≡ true

-- each of these comments answers a stored one, if any
abbrev pub answer_stored : ℕ → List NewComment → Bool
answer_stored stored new = list_all (λ n. option_map_or (λ k. is_within stored k) n.in_reply_to true) new

-- What a request has to be so that the change stays sound: there is a number for a new patch set and for each new comment, the patch set that is reviewed and the comments that are answered are there, and who is called by hand is eligible.
abbrev pub fits : ChangeCommand → Change → Bool
fits (Upload p) c = nat_lt (current c) most_patches
fits (Review r) c = is_within (current c) (reviewed r c) && (answer_stored (length c.comments) r.comments && nat_le (length c.comments + length (said r)) most_comments)
fits (AddAttention v reason) c = eligible c v
fits _ c = true
