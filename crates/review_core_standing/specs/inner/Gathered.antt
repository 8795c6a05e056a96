-- Comments that are put into threads one after the other.
use Rattle.std.specs.Option.{option_map_or}
use Rattle.std.specs.Prelude.{[], ℕ, zero, suc, List, ◌∷◌, ◌++◌, None, unwrap_or}
use Rattle.review_words.specs.declared.shown.{ShownComment.ShownComment, Thread.Thread}
use Rattle.review_core_rules.specs.{Change.of_number, declared.rows.CommentRow.CommentRow}
use Rattle.review_core_standing.specs.declared.gathering.Gathered.{Gathered}

-- a thread with the comments so far
abbrev pub thread_so_far : Gathered → Thread
thread_so_far g = record { root = g.root; comments = g.comments.items; unresolved = g.unresolved }

-- threads with a comment at the end of the one at a place, or with one that it begins where there is none
abbrev pub put_in : ℕ → ShownComment → List Thread → List Thread
put_in k x [] = record { root = x.number; comments = x ∷ []; unresolved = x.unresolved } ∷ []
put_in zero x (t ∷ ts) = record { root = t.root; comments = t.comments ++ x ∷ []; unresolved = x.unresolved } ∷ ts
put_in (suc k) x (t ∷ ts) = t ∷ put_in k x ts

-- the place of a comment's thread, by those of the comments before it: that of the one which it answers, or else the next
abbrev pub place_of : List ℕ → ℕ → CommentRow → ℕ
place_of places next x = unwrap_or (option_map_or (of_number places) x.answers None) next
