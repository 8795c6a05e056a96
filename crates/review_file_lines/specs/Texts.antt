-- Texts with the files that they spell.
use Rattle.std.specs.{List.Contains, Prelude.ℕ, Prelude.List}
use Rattle.{review_expr.specs.declared.expr.Expr.Expr, review_file_rules.specs.Inherited.IsEffective}
use Rattle.review_file_rules.specs.{Patterns.HasPattern, View.FileView, declared.fault.ReadFault.ReadFault}
use Rattle.review_file_rules.specs.declared.fault.ReadFault.TheVariants.{File, Memory, Pattern}

-- a text and a project file
pub record TextView : Type 0 where
  pub text : List ℕ
  pub file : FileView Expr

-- the texts of a line and an effective file
pub record LineView : Type 0 where
  pub texts : List (List ℕ)
  pub file : FileView Expr

-- Why the effective file of a line's texts isn't read: want of memory, a pattern in one of them, or that they spell none.
abbrev pub IsLineFault : List (List ℕ) → ReadFault → Type 0
IsLineFault texts Memory = Unit {0}
IsLineFault texts Pattern = (text : List ℕ) × Contains texts text × HasPattern text
IsLineFault texts (File fault) = (f : FileView Expr) → IsEffective texts f → ⊥
