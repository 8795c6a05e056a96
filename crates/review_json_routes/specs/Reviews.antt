-- What bodies of reviews say: the values that they give on labels, their comments, and the patch sets that they are of.
use Rattle.std.specs.List.{list_any}
use Rattle.std.specs.Prelude.{ℕ, ℤ, pos, neg_ℤ, int_le, ◌&&◌, List, [], ◌∷◌, if◌then◌else◌, Option, Some, None, option_map, option_and_then, codes, ◌++◌, nat_le, Bool, false, is_some, unwrap_or}
use Rattle.std.specs.Str.{bytes_eq}
use Rattle.serde_json.specs.Data.{Data, Members, no_members, member, Items, no_items, item}
use Rattle.serde_json.specs.Find.{get, as_i64, as_number, as_object, as_u64, as_array, as_str}
use Rattle.review_names.specs.Forms.{is_label, is_message, is_place, most_comments, most_patches}
use Rattle.review_names.specs.Numerals.{◌>>=◌}
use Rattle.review_words.specs.Reviews.{label_set, all_written}
use Rattle.review_words.specs.declared.changes.{Given.Given, NewComment.NewComment, Review.Review}
use Rattle.review_json_routes.specs.Parts.{formed, or_absent, optional, name_at, number_of, flag_at}

-- the number, where it is from -99 to 99
abbrev pub value_from : ℤ → Option ℤ
value_from z = if int_le (neg_ℤ (pos 99)) z && int_le z (pos 99) then Some z else None

-- a value, a whole number from -99 to 99
unfoldable pub value_of : Data → Option ℤ
value_of d = option_and_then value_from (option_and_then as_i64 (as_number d))

-- the value that a member gives on the label which its key names
unfoldable pub given_of : List ℕ → Data → Option Given
given_of key d = do
  label ← formed is_label key
  value ← value_of d
  Some (record { label = label; value = value })

-- the values that the members of an object give
abbrev pub given_in : Members → Option (List Given)
given_in no_members = Some []
given_in (member key d ms) = option_and_then (λ one. option_map (λ more. one ∷ more) (given_in ms)) (given_of key d)

-- the values on labels, an object
unfoldable pub labels_of : Data → Option (List Given)
labels_of d = option_map label_set (option_and_then given_in (as_object d))

-- the values that a review gives, none where nothing is said of labels
unfoldable pub labels_in : Data → Option (List Given)
labels_in body = or_absent [] labels_of (get (codes "labels") body)

-- the greatest line of a comment
abbrev pub most_lines : ℕ
most_lines = 1000000000

-- the number, where it is that of a line
abbrev pub line_from : ℕ → Option ℕ
line_from n = if nat_le n most_lines then Some n else None

-- a line, a whole number from 0 to the greatest one
abbrev pub line_of : Data → Option ℕ
line_of d = option_and_then line_from (option_and_then as_u64 (as_number d))

-- the line of a comment, 0 where nothing is said of it
unfoldable pub line_in : Data → Option ℕ
line_in d = or_absent 0 line_of (get (codes "line") d)

-- the comment that is answered, if one is
unfoldable pub answered_in : Data → Option (Option ℕ)
answered_in d = optional (number_of most_comments) (get (codes "in_reply_to") d)

-- a comment on a place, an object with its message
unfoldable pub comment_of : List ℕ → Data → Option NewComment
comment_of place d = do
  line ← line_in d
  message ← name_at is_message (codes "message") d
  unresolved ← flag_at (codes "unresolved") d
  answered ← answered_in d
  Some (record { path = place; line = line; message = message; unresolved = unresolved; in_reply_to = answered })

-- the comments of a list on a place, in its order
abbrev pub comments_on : List ℕ → Items → Option (List NewComment)
comments_on place no_items = Some []
comments_on place (item d ds) = option_and_then (λ one. option_map (λ more. one ∷ more) (comments_on place ds)) (comment_of place d)

-- the comments of a member on the place which its key names
unfoldable pub comments_at : List ℕ → Data → Option (List NewComment)
comments_at key d = do
  place ← formed is_place key
  list ← as_array d
  comments_on place list

-- the comments of the members of an object, member by member
abbrev pub comments_from : Members → Option (List NewComment)
comments_from no_members = Some []
comments_from (member key d ms) = option_and_then (λ here. option_map (λ more. here ++ more) (comments_from ms)) (comments_at key d)

-- the comments, where each has a message
abbrev pub written : List NewComment → Option (List NewComment)
written comments = if all_written comments then Some comments else None

-- comments, an object, whose members stand in the order of their keys
unfoldable pub comments_of : Data → Option (List NewComment)
comments_of d = option_and_then written (option_and_then comments_from (as_object d))

-- the comments that a review makes, none where nothing is said of comments
unfoldable pub comments_in : Data → Option (List NewComment)
comments_in body = or_absent [] comments_of (get (codes "comments") body)

-- whether the current patch set is meant, by the text `current`
abbrev pub is_current : Data → Bool
is_current d = unwrap_or (option_map (λ text. bytes_eq text (codes "current")) (as_str d)) false

-- a patch set by its number, or the current one
unfoldable pub patch_of : Data → Option (Option ℕ)
patch_of d = if is_current d then Some None else option_map (λ patch. Some patch) (number_of most_patches d)

-- the patch set of a line
unfoldable pub patch_in : Data → Option (Option ℕ)
patch_in line = option_and_then patch_of (get (codes "patch_set") line)

-- a message
abbrev pub message_of : Data → Option (List ℕ)
message_of d = option_and_then (formed is_message) (as_str d)

-- the message of a review, empty where there is none
unfoldable pub message_in : Data → Option (List ℕ)
message_in body = or_absent [] message_of (get (codes "message") body)

-- what Gerrit takes in a review and the desk does not, so that a review with it isn't read as one without
abbrev pub refused_members : List (List ℕ)
refused_members =
    codes "ready" ∷ codes "work_in_progress" ∷ codes "reviewers" ∷ codes "on_behalf_of"
    ∷ codes "add_to_attention_set" ∷ codes "remove_from_attention_set" ∷ codes "ignore_automatic_attention_set_rules" ∷ []

-- whether a body has one of these members, whatever its value
unfoldable pub has_refused : Data → Bool
has_refused body = list_any (λ key. is_some (get key body)) refused_members

-- what the body says, of the patch set that is given
unfoldable pub said : Option ℕ → Data → Option Review
said patch body = do
  message ← message_in body
  labels ← labels_in body
  comments ← comments_in body
  Some (record { patch = patch; message = message; labels = labels; comments = comments })
