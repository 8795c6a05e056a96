use Rattle.std.proofs.Common.{◌≡◌, ◌++◌, drop, map}
use Rattle.{review_names.specs.Numerals.numeral, review_words_texts.specs.Shown.shown}
use Rattle.review_words_texts.proofs.replies.add_changes.Given as goal

abbrev pub invariant-loop-change : goal.invariant-loop-change
invariant-loop-change l = map shown l.out.items ++ map numeral (drop l.change-index l.changes) ≡ map shown l.fn.out.items ++ map numeral l.changes
