-- How an expression is written, and the text that it is printed as.
use Rattle.std.specs.Prelude.{[], ℕ, List, ◌++◌, codes}
use Rattle.review_expr_terms.specs.Grammar.{Tree, Term, Neg, All, Any, Trees, End, With}
use Rattle.{review_expr_terms.specs.Views.view, review_expr.specs.declared.expr.Expr.Expr}
use Rattle.review_expr_printing.specs.Written.{requirement_word, copy_word}
use Rattle.review_expr.specs.declared.expr.Expr.TheVariants as expr

-- a tree as a member: a list stands in parentheses
abbrev mutual
  pub member_text : {A : Type 0} → (A → List ℕ) → Tree A → List ℕ
  member_text word (Term a) = word a
  member_text word (Neg t) = codes "NOT " ++ member_text word t
  member_text word (All ts) = codes "(" ++ (joined_text word (codes " AND ") ts ++ codes ")")
  member_text word (Any ts) = codes "(" ++ (joined_text word (codes " OR ") ts ++ codes ")")

  -- members with a sign between them
  pub joined_text : {A : Type 0} → (A → List ℕ) → List ℕ → Trees A → List ℕ
  joined_text word sign End = []
  joined_text word sign (With t ts) = member_text word t ++ led_text word sign ts

  -- members with a sign before each
  pub led_text : {A : Type 0} → (A → List ℕ) → List ℕ → Trees A → List ℕ
  led_text word sign End = []
  led_text word sign (With t ts) = sign ++ (member_text word t ++ led_text word sign ts)

-- a tree by itself: a list stands in no parentheses
abbrev pub printed : {A : Type 0} → (A → List ℕ) → Tree A → List ℕ
printed word (Term a) = word a
printed word (Neg t) = member_text word (Neg t)
printed word (All ts) = joined_text word (codes " AND ") ts
printed word (Any ts) = joined_text word (codes " OR ") ts

-- the text of an expression
abbrev pub expr_text : Expr → List ℕ
expr_text (expr.Requirement e) = printed requirement_word (view e.node)
expr_text (expr.Copy e) = printed copy_word (view e.node)
