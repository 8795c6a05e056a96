-- What a text is cut into.
use Rattle.std.specs.Prelude.{◌≡◌, ℕ, zero, suc, ◌+◌, Bool, true, false, not, ◌&&◌, ◌||◌, ◌==◌, List, [], ◌∷◌, ◌++◌, length, IsTrue}

-- a piece of a text: a word or a parenthesis
pub data Lexeme : Type 0 where
  -- a word: where it starts, and its bytes
  Word : (place : ℕ) (bytes : List ℕ) → Lexeme
  -- an opening parenthesis: where it stands
  Open : (place : ℕ) → Lexeme
  Close : Lexeme

-- space, tab, line feed and carriage return
abbrev pub is_blank : ℕ → Bool
is_blank c = c == 32 || c == 9 || c == 10 || c == 13

-- a byte before which a word may end: white space or a parenthesis
abbrev pub is_end : ℕ → Bool
is_end c = is_blank c || c == 40 || c == 41

-- The quotes are closed, and outside them stands neither white space nor a parenthesis. The flag: within quotes.
abbrev pub runs : Bool → List ℕ → Bool
runs quoted [] = not quoted
runs true (c ∷ cs) = runs (not (c == 34)) cs
runs false (c ∷ cs) = not (is_end c) && runs (c == 34) cs

-- white space alone
abbrev pub all_blank : List ℕ → Bool
all_blank [] = true
all_blank (c ∷ cs) = is_blank c && all_blank cs

-- a word may end before this text
abbrev pub ends : List ℕ → Bool
ends [] = true
ends (c ∷ cs) = is_end c

-- The text is these lexemes, with white space round them, where its first byte stands at the place.
abbrev pub IsCut : ℕ → List Lexeme → List ℕ → Type 0
IsCut at [] text = IsTrue (all_blank text)
IsCut at (Open place ∷ ls) text = (blank rest : List ℕ) × IsTrue (all_blank blank) × (text ≡ blank ++ 40 ∷ rest) × (place ≡ at + length blank) × IsCut (place + 1) ls rest
IsCut at (Close ∷ ls) text = (blank rest : List ℕ) × IsTrue (all_blank blank) × (text ≡ blank ++ 41 ∷ rest) × IsCut (at + length blank + 1) ls rest
IsCut at (Word place w ∷ ls) text = (blank : List ℕ) × (c : ℕ) × (cs rest : List ℕ) × IsTrue (all_blank blank)
    × (w ≡ c ∷ cs) × IsTrue (runs false w) × IsTrue (ends rest) × (place ≡ at + length blank) × (text ≡ blank ++ (w ++ rest)) × IsCut (place + length w) ls rest

-- each parenthesis has its other half, where so many stand unclosed in front
abbrev pub balanced : ℕ → List Lexeme → Bool
balanced unclosed [] = unclosed == 0
balanced unclosed (Open place ∷ ls) = balanced (suc unclosed) ls
balanced zero (Close ∷ ls) = false
balanced (suc unclosed) (Close ∷ ls) = balanced unclosed ls
balanced unclosed (Word place w ∷ ls) = balanced unclosed ls
