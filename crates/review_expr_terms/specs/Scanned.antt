-- How the values of the scanner stand to those of the definition.
use Rattle.std.specs.Prelude.{ℕ, List, slice_range, map, ◌≤◌, length, ◌≡◌, ◌<◌, false, IsTrue}
use Rattle.review_expr_terms.specs.Lexemes.{Lexeme, Word, Open, Close, IsCut, all_blank, balanced}
use Rattle.review_expr_terms.specs.declared.lexemes.{CutFault.CutFault, Piece.Piece}
use Rattle.review_expr_terms.specs.declared.lexemes.Piece.TheVariants as piece
use Rattle.review_expr_terms.specs.declared.lexemes.CutFault.TheVariants as fault

-- a piece of this text
abbrev pub lexeme : List ℕ → Piece → Lexeme
lexeme text (piece.Word start end) = Word start (slice_range text start end)
lexeme text (piece.Open place) = Open place
lexeme text piece.Close = Close

-- pieces of a text as its lexemes
abbrev pub lexemes : List ℕ → List Piece → List Lexeme
lexemes text = map (lexeme text)

-- a word ends within the text
abbrev pub IsWithin : List ℕ → Piece → Type 0
IsWithin text (piece.Word start end) = end ≤ length text
IsWithin text (piece.Open place) = Unit {0}
IsWithin text piece.Close = Unit {0}

-- The text is not cut, for this cause: it has more than 4,096 bytes, or no lexeme, or no lexemes whose parentheses match make it; or memory ran out.
abbrev pub IsUncut : List ℕ → CutFault → Type 0
IsUncut text fault.TooLong = 4096 < length text
IsUncut text fault.Empty = (length text ≤ 4096) × IsTrue (all_blank text)
IsUncut text fault.Unbalanced = (length text ≤ 4096) × ((ls : List Lexeme) → IsCut 0 ls text → balanced 0 ls ≡ false)
IsUncut text fault.Memory = Unit {0}
