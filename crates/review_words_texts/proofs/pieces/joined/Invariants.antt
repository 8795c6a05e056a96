use Rattle.std.proofs.Common.{◌≡◌, ◌++◌, drop, map, string_bytes}
use Rattle.{review_words.specs.Texts.text_of, review_words_texts.specs.Shown.shown}
use Rattle.review_words_texts.proofs.pieces.joined.Given as goal

abbrev pub invariant-loop-piece : goal.invariant-loop-piece
invariant-loop-piece l = string_bytes l.out ++ text_of (map shown (drop l.piece-index l.pieces)) ≡ text_of (map shown l.pieces)
