-- Which texts are expressions, the tree that each has, and why another text is none.
use Rattle.std.specs.Prelude.{◌≡◌, ℕ, ◌≤◌, List, length, Some, IsTrue, ◌∷◌, ◌++◌, IsSome, ◌⊎◌, ◌<◌, false}
use Rattle.review_expr_terms.specs.Grammar.{Tok, Tree, HasTree, Fault, HasFault, BadTerm, TooDeep, Mixed}
use Rattle.review_expr_terms.specs.Lexemes.{Lexeme, IsCut, balanced, Word, all_blank}
use Rattle.review_expr_terms.specs.Views.{view}
use Rattle.review_expr_terms.specs.Words.{Reading, Bad, Flaw, NoTerm, NoValue, Zero}
use Rattle.{review_expr_terms.specs.declared.tree.Node.Node, review_words.specs.declared.faults.ExprCode.ExprCode}
use Rattle.review_expr.specs.Tokens.{tokens, tokens_before, lexeme_tokens, unsigned}
use Rattle.review_expr.specs.declared.fault.ParseFault.{ParseFault}
use Rattle.review_expr.specs.declared.fault.ParseFault.TheVariants as fault
use Rattle.review_words.specs.declared.faults.ExprCode.TheVariants as code

-- The text has at most 4,096 bytes, and is made of these words and parentheses: at least one, and each parenthesis has its other half.
abbrev pub IsLaidOut : List Lexeme → List ℕ → Type 0
IsLaidOut ls text = (length text ≤ 4096) × IsCut 0 ls text × (1 ≤ length ls) × IsTrue (balanced 0 ls)

-- Every word of the text is good, and these are its tokens.
abbrev pub HasTokens : {A : Type 0} → (List ℕ → Reading A) → List ℕ → List (Tok A) → Type 0
HasTokens reading text ts = (ls : List Lexeme) × IsLaidOut ls text × (tokens reading ls ≡ Some ts)

-- The text is an expression with this tree.
abbrev pub HasExpr : {A : Type 0} → (List ℕ → Reading A) → List ℕ → Tree A → Type 0
HasExpr {A = A} reading text tree = (ts : List (Tok A)) × HasTokens reading text ts × HasTree ts tree

-- Some text is an expression with this tree.
abbrev pub IsExpression : {A : Type 0} → (List ℕ → Reading A) → Tree A → Type 0
IsExpression reading tree = (text : List ℕ) × HasExpr reading text tree

-- What an expression holds is the tree of some text.
abbrev pub IsTreeOfText : {A : Type 0} → (List ℕ → Reading A) → Node A → Type 0
IsTreeOfText reading node = IsExpression reading (view node)

-- The text is laid out, this word stands in it at this place with these words and parentheses after it, and every word before it is good.
abbrev pub IsReached : {A : Type 0} → (List ℕ → Reading A) → List ℕ → ℕ → List ℕ → List Lexeme → Type 0
IsReached reading text place w after =
    (before : List Lexeme) × IsLaidOut (before ++ Word place w ∷ after) text × IsSome (tokens_before reading before (Word place w ∷ after))

-- The first word that is not good stands at this place, and has this flaw.
abbrev pub HasFlaw : {A : Type 0} → (List ℕ → Reading A) → List ℕ → ℕ → Flaw → Type 0
HasFlaw reading text place flaw =
    (w : List ℕ) × (after : List Lexeme) × IsReached reading text place w after × (lexeme_tokens reading (Word place w) after ≡ Bad flaw)

-- A word stands at this place, every word before it is good, and it is, without its minus, as said.
abbrev pub HasWord : {A : Type 0} → (List ℕ → Reading A) → (List ℕ → Type 0) → List ℕ → ℕ → Type 0
HasWord reading P text place = (w : List ℕ) × (after : List Lexeme) × IsReached reading text place w after × P (unsigned w)

-- Every word is good, and the tokens have this fault by the grammar.
abbrev pub HasShapeFault : {A : Type 0} → (List ℕ → Reading A) → List ℕ → Fault → Type 0
HasShapeFault {A = A} reading text fault = (ts : List (Tok A)) × HasTokens reading text ts × HasFault ts fault

-- The text is no expression, for this cause at this place. One place is free: a word whose pattern nests too deep may be a bad value whatever its reading.
abbrev pub IsFault : {A : Type 0} → (List ℕ → Reading A) → (List ℕ → Type 0) → List ℕ → ℕ → ExprCode → Type 0
IsFault reading IsDeep text place code.TooLong = (place ≡ 0) × (4096 < length text)
IsFault reading IsDeep text place code.Empty = (place ≡ 0) × (length text ≤ 4096) × IsTrue (all_blank text)
IsFault reading IsDeep text place code.Unbalanced = (place ≡ 0) × (length text ≤ 4096) × ((ls : List Lexeme) → IsCut 0 ls text → balanced 0 ls ≡ false)
IsFault reading IsDeep text place code.BadTerm = HasFlaw reading text place NoTerm ⊎ ((place ≡ 0) × HasShapeFault reading text BadTerm)
IsFault reading IsDeep text place code.BadValue = HasFlaw reading text place NoValue ⊎ HasWord reading IsDeep text place
IsFault reading IsDeep text place code.Zero = HasFlaw reading text place Zero
IsFault reading IsDeep text place code.TooDeep = (place ≡ 0) × HasShapeFault reading text TooDeep
IsFault reading IsDeep text place code.Mixed = (place ≡ 0) × HasShapeFault reading text Mixed

-- The answer may be given in place of a tree: a fault of the text, or want of memory, or, where a word that is reached has a pattern, that the engine refuses it.
abbrev pub IsParseFault : {A : Type 0} → (List ℕ → Reading A) → (List ℕ → Type 0) → (List ℕ → Type 0) → List ℕ → ParseFault → Type 0
IsParseFault reading IsDeep IsPattern text (fault.Text f) = IsFault reading IsDeep text f.place f.code
IsParseFault reading IsDeep IsPattern text fault.Memory = Unit {0}
IsParseFault reading IsDeep IsPattern text fault.Pattern = (place : ℕ) × HasWord reading IsPattern text place
