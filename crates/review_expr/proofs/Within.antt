-- A fault's place lies within the text.
use Rattle.std.proofs.Common.{◌≡◌, inl, inr, ℕ, ◌+◌, ◌≤◌, ◌<◌, List, [], ◌∷◌, ◌++◌, length, ap, arith, length-append}
use Rattle.review_expr_terms.specs.Lexemes.{Lexeme, Word, Open, Close, IsCut}
use Rattle.{review_expr_terms.specs.Words.Reading, review_words.specs.declared.faults.ExprCode.ExprCode}
use Rattle.review_expr.specs.Expressions.{IsReached, IsFault}
use Rattle.review_words.specs.declared.faults.ExprCode.TheVariants as code

-- a word begins within the text that it is cut from
word_within : (before : List Lexeme) (place : ℕ) (w : List ℕ) (after : List Lexeme) (at : ℕ) (text : List ℕ) → IsCut at (before ++ Word place w ∷ after) text → place < at + length text
word_within [] place w after at text h =
    omega (arith, h.8, ap length h.5, ap length h.9, length-append h.0 (w ++ h.3), length-append w h.3)
word_within (Open p ∷ ls) place w after at text h =
    omega (arith, word_within ls place w after (p + 1) h.1 h.5, h.4, ap length h.3, length-append h.0 (40 ∷ h.1))
word_within (Close ∷ ls) place w after at text h =
    omega (arith, word_within ls place w after (at + length h.0 + 1) h.1 h.4, ap length h.3, length-append h.0 (41 ∷ h.1))
word_within (Word p v ∷ ls) place w after at text h =
    omega (arith, word_within ls place w after (p + length v) h.3 h.10, h.8, ap length h.9, length-append h.0 (v ++ h.3), length-append v h.3)

reached_within : {A : Type 0} → (reading : List ℕ → Reading A) (text : List ℕ) (place : ℕ) (w : List ℕ) (after : List Lexeme) → IsReached reading text place w after →
    (place ≤ length text) × (place ≤ 4096)
reached_within reading text place w after h =
    let below = word_within h.0 place w after 0 text h.1.1 in (omega (arith, below), omega (arith, below, h.1.0))

at_start : (place : ℕ) (text : List ℕ) → place ≡ 0 → (place ≤ length text) × (place ≤ 4096)
at_start place text h = (omega (arith, h), omega (arith, h))

pub place_within : {A : Type 0} → (reading : List ℕ → Reading A) (IsDeep : List ℕ → Type 0) (text : List ℕ) (place : ℕ) (c : ExprCode) → IsFault reading IsDeep text place c →
    (place ≤ length text) × (place ≤ 4096)
place_within reading IsDeep text place code.BadTerm (inl h) = reached_within reading text place h.0 h.1 h.2
place_within reading IsDeep text place code.BadTerm (inr h) = at_start place text h.0
place_within reading IsDeep text place code.BadValue (inl h) = reached_within reading text place h.0 h.1 h.2
place_within reading IsDeep text place code.BadValue (inr h) = reached_within reading text place h.0 h.1 h.2
place_within reading IsDeep text place code.Zero h = reached_within reading text place h.0 h.1 h.2
place_within reading IsDeep text place _ h = at_start place text h.0
