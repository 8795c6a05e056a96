use Rattle.std.proofs.Common.{◌≡◌, ℕ, List, length, map}
use Rattle.review_words.specs.Texts.{text_of}
use Rattle.review_words_texts.{proofs.Splitting.Left, specs.Reading.AreShort}
use Rattle.review_words_texts.proofs.pieces.cut.Given as goal

abbrev pub invariant-loop-rest : goal.invariant-loop-rest
invariant-loop-rest l = (fs : List (List ℕ)) → AreShort fs → text_of fs ≡ l.bytes → Left fs (map (λ f. f.now) l.fields.items) l.rest

abbrev pub decreases-loop-rest : goal.decreases-loop-rest
decreases-loop-rest l = length l.rest
