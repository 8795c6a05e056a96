-- The flat list of an expression.
use Rattle.std.specs.Prelude.{◌≡◌, ℕ, ◌+◌, List, [], ◌∷◌, ◌++◌, map}
use Rattle.review_expr_terms.specs.Grammar.{Tree, Term, Neg, All, Any, Trees, End, With}
use Rattle.review_expr_judging.specs.declared.compiled.Step.{Step}
use Rattle.review_expr_judging.specs.declared.compiled.Step.TheVariants as step

-- an entry of a flat list: a term, or a node with how many members it has, whose entries stand before it
pub data Entry (A : Type 0) : Type 0 where
  TermEntry : A → Entry A
  NotEntry : Entry A
  AndEntry : ℕ → Entry A
  OrEntry : ℕ → Entry A

-- the flat list of a tree, in postfix order: the lists of a node's members before the node
abbrev mutual
  pub postfix : {A : Type 0} → Tree A → List (Entry A)
  postfix (Term a) = TermEntry a ∷ []
  postfix (Neg t) = postfix t ++ NotEntry ∷ []
  postfix (All ts) = postfixes ts ++ AndEntry (how_many ts) ∷ []
  postfix (Any ts) = postfixes ts ++ OrEntry (how_many ts) ∷ []

  pub postfixes : {A : Type 0} → Trees A → List (Entry A)
  postfixes End = []
  postfixes (With t ts) = postfix t ++ postfixes ts

  pub how_many : {A : Type 0} → Trees A → ℕ
  how_many End = 0
  how_many (With t ts) = 1 + how_many ts

-- a step as an entry of a list
abbrev pub entry : {A : Type 0} → Step A → Entry A
entry (step.Term a) = TermEntry a.now
entry step.Not = NotEntry
entry (step.And n) = AndEntry n
entry (step.Or n) = OrEntry n

-- The steps are the flat list of the tree.
abbrev pub AreStepsOf : {A : Type 0} → Tree A → List (Step A) → Type 0
AreStepsOf t steps = map entry steps ≡ postfix t

-- The steps are the flat list of some tree.
abbrev pub AreStepsOfATree : {A : Type 0} → List (Step A) → Type 0
AreStepsOfATree {A = A} steps = (t : Tree A) × AreStepsOf t steps
