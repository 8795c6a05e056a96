-- What the pieces of a text stand for.
use Rattle.{std.specs.Prelude.ℕ, std.specs.Prelude.List, review_names.specs.Numerals.numeral}
use Rattle.{review_words.specs.Texts.signed, review_words_texts.specs.declared.pieces.Piece.Piece}
use Rattle.review_words_texts.specs.declared.pieces.Piece.TheVariants.{Text, Number, Signed}

-- the field that a piece is written as
abbrev pub shown : Piece → List ℕ
shown (Text text) = text.now
shown (Number number) = numeral number
shown (Signed number) = signed number
