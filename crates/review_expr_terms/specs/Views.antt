-- How the values of the parser stand to those of the grammar.
use Rattle.std.specs.Prelude.{List, map, ℕ, Bool, ◌&&◌, ◌||◌}
use Rattle.review_expr_terms.specs.Grammar.{trees, Tok, Word, Open, Close, Minus, NotWord, AndWord, OrWord, And, Or, Tree, Term, Neg, All, Any, listed, HasFault, BadTerm, TooDeep, Mixed}
use Rattle.review_expr_terms.specs.declared.{parser.ShapeFault.ShapeFault, token.Token.Token}
use Rattle.review_expr_terms.specs.declared.tree.Node.{Node, TheFolds.fold-Node, TheOpen.Node-F}
use Rattle.review_expr_terms.specs.declared.token.Token.TheVariants as token
use Rattle.review_expr_terms.specs.declared.parser.ShapeFault.TheVariants as fault

-- a token
abbrev pub tok : {A : Type 0} → Token A → Tok A
tok (token.Word a) = Word a.value
tok token.Open = Open
tok token.Close = Close
tok token.Minus = Minus
tok token.Not = NotWord
tok token.And = AndWord
tok token.Or = OrWord

-- tokens as the definitions see them
abbrev pub toks : {A : Type 0} → List (Token A) → List (Tok A)
toks = map tok

-- one node, with the tree of each member in its place
abbrev pub node : {A : Type 0} → Node-F A (Tree A) → Tree A
node (Node-F.Term a) = Term a.value
node (Node-F.Not e) = Neg e.value
node (Node-F.And es) = All (trees es.items)
node (Node-F.Or es) = Any (trees es.items)

-- the tree of an expression
abbrev pub view : {A : Type 0} → Node A → Tree A
view {A = A} = fold-Node A (Tree A) node

-- what the parser keeps of a unary: depths past 32 are all one
pub record Summary (A : Type 0) : Type 0 where
  pub tree : Tree A
  pub depth : ℕ
  pub mixed : Bool

-- what it keeps of the members so far
pub record Sums (A : Type 0) : Type 0 where
  pub trees : List (Tree A)
  pub has_and : Bool
  pub has_or : Bool
  pub depth : ℕ
  pub mixed : Bool

-- the members as one
abbrev pub whole : {A : Type 0} → Sums A → Summary A
whole s = record { tree = listed s.has_or s.trees; depth = s.depth; mixed = (s.has_or && s.has_and) || s.mixed }

-- The tokens have no tree, for this cause, or memory ran out.
abbrev pub IsShapeFault : {A : Type 0} → List (Tok A) → ShapeFault → Type 0
IsShapeFault ts fault.BadTerm = HasFault ts BadTerm
IsShapeFault ts fault.TooDeep = HasFault ts TooDeep
IsShapeFault ts fault.Mixed = HasFault ts Mixed
IsShapeFault ts fault.Memory = Unit {0}
