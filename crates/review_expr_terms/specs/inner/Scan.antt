-- Scanning byte by byte; the law above it is `IsCut`.
use Rattle.std.specs.Prelude.{[], ℕ, Bool, List, true, false, ◌==◌, ◌∷◌, ◌++◌, ◌+◌, not, Option, Some, None, option_map}
use Rattle.review_expr_terms.specs.Lexemes.{Lexeme, Open, Close, is_blank, Word, is_end}

-- where a scan stands in a text
pub data Mode : Type 0 where
  -- between lexemes
  Between : Mode
  -- in a word: where it starts, its bytes so far, and whether a quote is open
  Within : (place : ℕ) (bytes : List ℕ) (quoted : Bool) → Mode

-- a byte outside words, by whether it is blank and which parenthesis it is: what it gives, and the mode after it
abbrev pub begins_by : Bool → Bool → Bool → ℕ → ℕ → List Lexeme × Mode
begins_by true opens closes at c = ([], Between)
begins_by false true closes at c = (Open at ∷ [], Between)
begins_by false false true at c = (Close ∷ [], Between)
begins_by false false false at c = ([], Within at (c ∷ []) (c == 34))

-- what a byte begins that stands between lexemes
abbrev pub begins : ℕ → ℕ → List Lexeme × Mode
begins at c = begins_by (is_blank c) (c == 40) (c == 41) at c

-- a byte behind a word, which ends it or goes on
abbrev pub step_by : Bool → ℕ → List ℕ → ℕ → ℕ → List Lexeme × Mode
step_by true place w at c = (Word place w ∷ (begins at c).0, (begins at c).1)
step_by false place w at c = ([], Within place (w ++ c ∷ []) (c == 34))

-- a byte further: the lexemes that it ends or is, and where the scan stands then
abbrev pub step : Mode → ℕ → ℕ → List Lexeme × Mode
step Between at c = begins at c
step (Within place w true) at c = ([], Within place (w ++ c ∷ []) (not (c == 34)))
step (Within place w false) at c = step_by (is_end c) place w at c

-- what ends with the text; none where a quote is open
abbrev pub finish : Mode → Option (List Lexeme)
finish Between = Some []
finish (Within place w true) = None
finish (Within place w false) = Some (Word place w ∷ [])

-- lexemes in front of those that follow
abbrev pub put : List Lexeme → Option (List Lexeme) → Option (List Lexeme)
put ls = option_map (λ ms. ls ++ ms)

-- the lexemes of the rest of a text, byte by byte
abbrev pub scan : Mode → ℕ → List ℕ → Option (List Lexeme)
scan m at [] = finish m
scan m at (c ∷ cs) = put (step m at c).0 (scan (step m at c).1 (at + 1) cs)
