-- A project file with the trees of its expressions: all that is ever asked of it.
use Rattle.std.specs.Prelude.{map, option_map}
use Rattle.review_expr_terms.specs.{Grammar.Tree, Views.view}
use Rattle.review_expr_terms.specs.declared.terms.{CopyTerm.CopyTerm, RequirementTerm.RequirementTerm}
use Rattle.review_expr.specs.declared.expr.Expr.{Expr}
use Rattle.review_file_rules.specs.View.{LabelView, RequirementView, FileView}
use Rattle.review_expr.specs.declared.expr.Expr.TheVariants as expr

-- the tree of an expression of either kind
pub data ExprTree : Type 0 where
  OfRequirement : Tree RequirementTerm → ExprTree
  OfCopy : Tree CopyTerm → ExprTree

-- the tree of an expression, with its kind
abbrev pub tree_of : Expr → ExprTree
tree_of (expr.Requirement e) = OfRequirement (view e.node)
tree_of (expr.Copy e) = OfCopy (view e.node)

-- a label with its copy condition as a tree
abbrev pub label_trees : LabelView Expr → LabelView ExprTree
label_trees l = record { name = l.name; values = l.values; grants = l.grants; copy_condition = option_map tree_of l.copy_condition }

-- a requirement with its expressions as trees
abbrev pub requirement_trees : RequirementView Expr → RequirementView ExprTree
requirement_trees r = record {
  name = r.name;
  description = r.description;
  applicable_if = option_map tree_of r.applicable_if;
  submittable_if = tree_of r.submittable_if;
  override_if = option_map tree_of r.override_if;
  can_override_in_child_projects = r.can_override_in_child_projects;
}

-- the file with its expressions as trees
abbrev pub file_trees : FileView Expr → FileView ExprTree
file_trees f = record { parent = f.parent; description = f.description; access = f.access; labels = map label_trees f.labels; requirements = map requirement_trees f.requirements }
