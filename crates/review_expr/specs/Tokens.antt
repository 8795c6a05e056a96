-- The tokens that the words and parentheses of a text are. What a word is that is a term's, `reading` says.
use Rattle.std.specs.Prelude.{ℕ, ◌+◌, Bool, true, false, ◌==◌, List, [], ◌∷◌, ◌++◌, codes, Option, Some, None, if◌then◌else◌}
use Rattle.std.specs.Str.{bytes_eq}
use Rattle.review_expr_terms.specs.Grammar.{Tok, Minus, NotWord, AndWord, OrWord, Word as Term, Open as Opens, Close as Closes}
use Rattle.review_expr_terms.specs.Lexemes.{Lexeme, Word, Open, Close}
use Rattle.review_expr_terms.specs.Words.{Reading, Good, Bad, NoTerm}

-- the operators are upper case words
abbrev pub operator_by : {A : Type 0} → Bool → Bool → Bool → Option (Tok A)
operator_by true is_or is_not = Some AndWord
operator_by false true is_not = Some OrWord
operator_by false false true = Some NotWord
operator_by false false false = None

-- the token of a word that is an operator
abbrev pub operator : {A : Type 0} → List ℕ → Option (Tok A)
operator w = operator_by (bytes_eq w (codes "AND")) (bytes_eq w (codes "OR")) (bytes_eq w (codes "NOT"))

-- a term's word as a token
abbrev pub term_token : {A : Type 0} → Reading A → Reading (Tok A)
term_token (Good a) = Good (Term a)
term_token (Bad flaw) = Bad flaw

-- an operator, or otherwise a term
abbrev pub operator_or : {A : Type 0} → Option (Tok A) → Reading A → Reading (Tok A)
operator_or (Some t) r = Good t
operator_or None r = term_token r

-- what a word without a minus is: an operator or a term
abbrev pub meaning : {A : Type 0} → (List ℕ → Reading A) → List ℕ → Reading (Tok A)
meaning reading w = operator_or (operator w) (reading w)

-- a minus in front
abbrev pub is_signed : List ℕ → Bool
is_signed [] = false
is_signed (c ∷ cs) = c == 45

-- the word without its minus
abbrev pub unsigned : List ℕ → List ℕ
unsigned [] = []
unsigned (c ∷ cs) = (if c == 45 then cs else c ∷ cs)

-- a token as a list of one
abbrev pub alone : {A : Type 0} → Reading (Tok A) → Reading (List (Tok A))
alone (Good t) = Good (t ∷ [])
alone (Bad flaw) = Bad flaw

-- a token with its minus in front
abbrev pub behind_minus : {A : Type 0} → Reading (Tok A) → Reading (List (Tok A))
behind_minus (Good t) = Good (Minus ∷ t ∷ [])
behind_minus (Bad flaw) = Bad flaw

-- a minus stands before nothing, unless a parenthesis opens directly behind it
abbrev pub lone_minus : {A : Type 0} → Bool → Reading (List (Tok A))
lone_minus true = Good (Minus ∷ [])
lone_minus false = Bad NoTerm

-- a minus stands before no second minus
abbrev pub after_minus : {A : Type 0} → (List ℕ → Reading A) → Bool → List ℕ → Reading (List (Tok A))
after_minus reading opens [] = lone_minus opens
after_minus reading opens (c ∷ cs) = (if c == 45 then Bad NoTerm else behind_minus (meaning reading (c ∷ cs)))

-- The tokens of a word: an operator or a term, perhaps behind a minus, or a minus alone. The flag: a parenthesis opens directly behind it.
abbrev pub word_tokens : {A : Type 0} → (List ℕ → Reading A) → Bool → List ℕ → Reading (List (Tok A))
word_tokens reading opens w = (if is_signed w then after_minus reading opens (unsigned w) else alone (meaning reading w))

-- a parenthesis opens at this place, before anything else
abbrev pub opens_at : ℕ → List Lexeme → Bool
opens_at place (Open at ∷ ls) = at == place
opens_at place ls = false

-- the tokens of a word or a parenthesis that stands before these others
abbrev pub lexeme_tokens : {A : Type 0} → (List ℕ → Reading A) → Lexeme → List Lexeme → Reading (List (Tok A))
lexeme_tokens reading (Word place w) after = word_tokens reading (opens_at (place + 1) after) w
lexeme_tokens reading (Open place) after = Good (Opens ∷ [])
lexeme_tokens reading Close after = Good (Closes ∷ [])

-- the tokens of a word in front of those of the later ones
abbrev pub joined : {A : Type 0} → Reading (List (Tok A)) → Option (List (Tok A)) → Option (List (Tok A))
joined (Good ts) (Some us) = Some (ts ++ us)
joined (Good ts) None = None
joined (Bad flaw) us = None

-- the tokens of words and parentheses that stand before these others, where every word is good
abbrev pub tokens_before : {A : Type 0} → (List ℕ → Reading A) → List Lexeme → List Lexeme → Option (List (Tok A))
tokens_before reading [] after = Some []
tokens_before reading (l ∷ ls) after = joined (lexeme_tokens reading l (ls ++ after)) (tokens_before reading ls after)

-- the tokens of all words and parentheses of a text
abbrev pub tokens : {A : Type 0} → (List ℕ → Reading A) → List Lexeme → Option (List (Tok A))
tokens reading ls = tokens_before reading ls []
