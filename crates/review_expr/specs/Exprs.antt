-- Expressions by their kinds.
use Rattle.std.specs.Prelude.{ℕ, Bool, false, List, []}
use Rattle.review_expr_terms.specs.Views.{view}
use Rattle.review_expr_judging.specs.Holds.{holds, requirement_holds, copy_holds}
use Rattle.review_expr_judging.specs.{Labels.labels, Postfix.AreStepsOf}
use Rattle.review_expr_spelling.specs.Words.{requirement_reading, copy_reading}
use Rattle.review_expr.specs.{Expressions.HasExpr, declared.compiled.TermList.TermList}
use Rattle.review_expr.specs.declared.{compiled.Terms.Terms, expr.Expr.Expr, expr.Facts.Facts}
use Rattle.review_expr.specs.declared.expr.Expr.TheVariants as expr
use Rattle.review_expr.specs.declared.compiled.TermList.TheVariants as list
use Rattle.review_expr.specs.declared.expr.Facts.TheVariants as facts

-- The text is this expression of a submit requirement.
abbrev pub IsRequirementOf : List ℕ → Expr → Type 0
IsRequirementOf text (expr.Requirement e) = HasExpr requirement_reading text (view e.node)
IsRequirementOf text (expr.Copy e) = ⊥

-- The text is this copy condition.
abbrev pub IsCopyOf : List ℕ → Expr → Type 0
IsCopyOf text (expr.Requirement e) = ⊥
IsCopyOf text (expr.Copy e) = HasExpr copy_reading text (view e.node)

-- The text is this expression, of whichever kind it is.
abbrev pub IsTextOf : List ℕ → Expr → Type 0
IsTextOf text (expr.Requirement e) = HasExpr requirement_reading text (view e.node)
IsTextOf text (expr.Copy e) = HasExpr copy_reading text (view e.node)

-- no word of a copy condition has a pattern, be it deep or refused
abbrev pub NoWord : List ℕ → Type 0
NoWord w = ⊥

-- the labels that an expression names
abbrev pub labels_in : Expr → List (List ℕ)
labels_in (expr.Requirement e) = labels (view e.node)
labels_in (expr.Copy e) = []

-- an expression holds by facts of its kind, and by no others
abbrev pub holds_for : Facts → Expr → Bool
holds_for (facts.Change f) (expr.Requirement e) = holds (requirement_holds f) (view e.node)
holds_for (facts.Vote f) (expr.Copy e) = holds (copy_holds f) (view e.node)
holds_for f e = false

-- The list is the flat list of the expression, and of its kind.
abbrev pub IsListOf : Expr → TermList → Type 0
IsListOf (expr.Requirement e) (list.Requirement s) = AreStepsOf (view e.node) s.list.items
IsListOf (expr.Copy e) (list.Copy s) = AreStepsOf (view e.node) s.list.items
IsListOf e l = ⊥

-- The terms are the flat list of the expression.
abbrev pub AreTermsOf : Expr → Terms → Type 0
AreTermsOf e t = IsListOf e t.list
