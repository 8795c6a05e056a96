use Rattle.std.proofs.Common.{◌≡◌, ◌++◌, drop, map, Some}
use Rattle.review_names.specs.{Forms.most_changes, Numerals.◌>>=◌}
use Rattle.review_words_texts.specs.Reading.{numbers_in}
use Rattle.review_words_texts.proofs.reading.read_change_numbers.Given as goal

abbrev pub invariant-loop-field : goal.invariant-loop-field
invariant-loop-field l = (numbers_in most_changes (map (λ f. f.now) (drop l.field-index l.fields)) >>= λ ns. Some (l.numbers.items ++ ns)) ≡ numbers_in most_changes (map (λ f. f.now) l.fields)
