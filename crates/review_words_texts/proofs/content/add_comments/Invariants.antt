use Rattle.std.proofs.Common.{◌≡◌, ◌++◌, drop, map}
use Rattle.{std.specs.Prelude.flat_map, review_words.specs.Texts.comment_fields, review_words_texts.specs.Shown.shown}
use Rattle.review_words_texts.proofs.content.add_comments.Given as goal

abbrev pub invariant-loop-comment : goal.invariant-loop-comment
invariant-loop-comment l = map shown l.out.items ++ flat_map comment_fields (drop l.comment-index l.comments) ≡ map shown l.fn.out.items ++ flat_map comment_fields l.comments
