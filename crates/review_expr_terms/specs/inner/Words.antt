-- Words that only proofs and private clauses use.
use Rattle.std.specs.Prelude.{◌≡◌, ℕ, List, true, false, Bool, Option, Some, None, slice_range, ◌++◌, ◌≤◌}
use Rattle.review_expr_terms.specs.Lexemes.{Lexeme, IsCut, balanced}
use Rattle.review_expr_terms.specs.{Patterns.is_read, Scanned.lexemes, declared.lexemes.CutFault.CutFault}
use Rattle.review_expr_terms.specs.declared.{lexemes.Scanner.Scanner, pattern.PatternFault.PatternFault}
use Rattle.review_expr_terms.specs.declared.pattern.PatternFault.TheVariants.{Syntax, Engine, Memory}
use Rattle.review_expr_terms.specs.inner.Scan.{Mode, Between, Within, begins, step}
use Rattle.review_expr_terms.specs.declared.lexemes.CutFault.TheVariants as fault

-- which fault may be given for one text
abbrev pub IsRefusedBy : List ℕ → PatternFault → Type 0
IsRefusedBy source Syntax = is_read source ≡ false
IsRefusedBy source Engine = is_read source ≡ true
IsRefusedBy source Memory = Unit {0}

-- the mode before the byte at a place of this text
abbrev pub mode_of : List ℕ → ℕ → Option ℕ → Bool → Mode
mode_of text at None quoted = Between
mode_of text at (Some start) quoted = Within start (slice_range text start at) quoted

-- what the scanner has at a place: the lexemes so far, and where the scan stands
abbrev pub scanner_at : List ℕ → ℕ → Scanner → List Lexeme × Mode
scanner_at text at s = (lexemes text s.pieces.items, mode_of text at s.start s.quoted)

-- the lexemes so far and those that a byte begins
abbrev pub begun : List Lexeme → ℕ → ℕ → List Lexeme × Mode
begun ls at c = (ls ++ (begins at c).0, (begins at c).1)

-- a byte further from these lexemes
abbrev pub advanced : List Lexeme × Mode → ℕ → ℕ → List Lexeme × Mode
advanced x at c = (x.0 ++ (step x.1 at c).0, (step x.1 at c).1)

-- a word that was begun starts no later than here
abbrev pub starts_by : Option ℕ → ℕ → Type 0
starts_by None at = Unit {0}
starts_by (Some start) at = start ≤ at

-- the open word starts at or before the place
abbrev pub IsBehind : Scanner → ℕ → Type 0
IsBehind s at = starts_by s.start at

-- no lexemes make the text, or memory ran out
abbrev pub IsUnscanned : List ℕ → CutFault → Type 0
IsUnscanned text fault.Unbalanced = (ls : List Lexeme) → IsCut 0 ls text → balanced 0 ls ≡ false
IsUnscanned text fault.Memory = Unit {0}
IsUnscanned text fault.TooLong = ⊥
IsUnscanned text fault.Empty = ⊥
