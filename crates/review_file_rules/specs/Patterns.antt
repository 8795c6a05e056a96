-- Which project files have patterns.
use Rattle.std.specs.Prelude.{◌≡◌, ◌⊎◌, ℕ, List, [], ◌∷◌, Some}
use Rattle.toml.specs.{Data.Members, Data.table, Parse.parse_document}
use Rattle.review_expr_spelling.specs.Words.{requirement_reading, IsDeep, IsPattern}
use Rattle.review_expr.specs.Expressions.{HasWord}
use Rattle.review_file_rules.specs.{Expressions.requirement_texts, Spelled.spelled}

-- in one of these texts of expressions a word is as said, all words before it in that text being good
abbrev pub SomeWord : (List ℕ → Type 0) → List (List ℕ) → Type 0
SomeWord P [] = ⊥
SomeWord P (text ∷ texts) = ((place : ℕ) × HasWord requirement_reading P text place) ⊎ SomeWord P texts

-- in the document that a text is, an expression of a requirement has a word that is as said
abbrev pub SpellsWord : (List ℕ → Type 0) → List ℕ → Type 0
SpellsWord P text = (ms : Members) × (parse_document text ≡ Some ms) × SomeWord P (requirement_texts (spelled (table ms)).requirements)

-- Some expression of a requirement in the document that a text is has a word with a pattern, whether or not the engine takes it.
abbrev pub HasPattern : List ℕ → Type 0
HasPattern text = SpellsWord IsPattern text

-- Some expression of a requirement in the document that a text is has a word with a pattern that nests deeper than the engine reads.
abbrev pub HasDeepPattern : List ℕ → Type 0
HasDeepPattern text = SpellsWord IsDeep text
