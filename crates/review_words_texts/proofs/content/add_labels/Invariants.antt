use Rattle.std.proofs.Common.{◌≡◌, ◌++◌, drop, map}
use Rattle.{std.specs.Prelude.flat_map, review_words.specs.Texts.given_fields, review_words_texts.specs.Shown.shown}
use Rattle.review_words_texts.proofs.content.add_labels.Given as goal

abbrev pub invariant-loop-given : goal.invariant-loop-given
invariant-loop-given l = map shown l.out.items ++ flat_map given_fields (drop l.given-index l.labels) ≡ map shown l.fn.out.items ++ flat_map given_fields l.labels
