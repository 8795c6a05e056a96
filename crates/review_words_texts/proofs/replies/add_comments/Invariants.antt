use Rattle.std.proofs.Common.{◌≡◌, ◌++◌, drop, map}
use Rattle.{review_names.specs.Numerals.numeral, review_words_texts.specs.Shown.shown}
use Rattle.review_words_texts.proofs.replies.add_comments.Given as goal

abbrev pub invariant-loop-comment : goal.invariant-loop-comment
invariant-loop-comment l = map shown l.out.items ++ map numeral (drop l.comment-index l.comments) ≡ map shown l.fn.out.items ++ map numeral l.comments
