-- The threads of a change.
use Rattle.std.specs.List.{filter}
use Rattle.std.specs.Prelude.{ℕ, ◌+◌, ◌==◌, Bool, false, List, [], ◌∷◌, map}
use Rattle.review_words.specs.declared.shown.{ShownComment.ShownComment, Thread.Thread}
use Rattle.review_core_rules.specs.{Change.posts, declared.rows.CommentRow.CommentRow, declared.rows.Post.Post}

-- a comment as it is shown, by its number
abbrev pub shown_comment : ℕ → CommentRow → ShownComment
shown_comment n x = record { number = n; patch = x.patch; path = x.path; line = x.line; author = x.author; message = x.message; unresolved = x.unresolved; answers = x.answers }

-- a comment and the number of the one that begins its thread
pub record Rooted : Type 0 where
  pub root : ℕ
  pub comment : ShownComment

-- comments as they are shown, after so many, each with the root that its post says
abbrev pub rooted_after : ℕ → List Post → List CommentRow → List Rooted
rooted_after n [] xs = []
rooted_after n (p ∷ ps) [] = []
rooted_after n (p ∷ ps) (x ∷ xs) = record { root = p.root; comment = shown_comment (n + 1) x } ∷ rooted_after (n + 1) ps xs

-- the comments of a change as they are shown, each with the root of its thread: the comment itself, where it answers none
abbrev pub rooted : List CommentRow → List Rooted
rooted comments = rooted_after 0 (posts comments) comments

-- the comments of the thread of a root: it, and all that answer it, directly or through others
abbrev pub of_root : List Rooted → ℕ → List ShownComment
of_root all root = map (λ x. x.comment) (filter (λ x. x.root == root) all)

-- the numbers of the comments that begin threads
abbrev pub roots : List Rooted → List ℕ
roots all = map (λ x. x.root) (filter (λ x. x.root == x.comment.number) all)

-- whether the last of some comments is unresolved
abbrev pub last_unresolved : Bool → List ShownComment → Bool
last_unresolved before [] = before
last_unresolved before (x ∷ xs) = last_unresolved x.unresolved xs

-- a thread is unresolved where its comment with the greatest number is, which is its last
abbrev pub thread_of : List Rooted → ℕ → Thread
thread_of all root = record { root = root; comments = of_root all root; unresolved = last_unresolved false (of_root all root) }

-- the threads of comments, by their roots
abbrev pub threads : List CommentRow → List Thread
threads comments = map (thread_of (rooted comments)) (roots (rooted comments))
