-- The copy conditions of a file, compiled.
use Rattle.std.specs.{List.All, Prelude.◌≡◌, Prelude.List, Prelude.map, Prelude.Option, Prelude.Some, Prelude.None}
use Rattle.review_expr.specs.{Exprs.AreTermsOf, declared.compiled.Terms.Terms, declared.expr.Expr.Expr}
use Rattle.{review_file_rules.specs.View.LabelView, review_core_tables.specs.declared.copying.Condition.Condition}

-- The terms are those of an expression, where there is one.
abbrev pub AreTermsOfAny : Option Expr → Option Terms → Type 0
AreTermsOfAny None None = Unit {0}
AreTermsOfAny (Some e) (Some t) = AreTermsOf e t
AreTermsOfAny e t = ⊥

-- The terms of a condition are those of its label's copy condition.
abbrev pub IsCompiled : Condition → Type 0
IsCompiled c = AreTermsOfAny c.label.now.copy_condition c.terms

-- These are the copy conditions of some labels, each with its label, in their order.
pub record AreConditions (labels : List (LabelView Expr)) (conditions : List Condition) : Type 0 where
  pub each : map (λ (c : Condition). c.label.now) conditions ≡ labels
  pub compiled : All IsCompiled conditions
