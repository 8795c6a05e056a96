-- The labels that an expression names.
use Rattle.std.specs.Prelude.{ℕ, List, [], ◌∷◌, ◌++◌}
use Rattle.review_expr_terms.specs.Grammar.{Tree, Term, Neg, All, Any, Trees, End, With}
use Rattle.review_expr_terms.specs.declared.terms.RequirementTerm.{RequirementTerm}
use Rattle.review_expr_terms.specs.declared.terms.RequirementTerm.TheVariants as requirement

-- the label of a `label:` term
abbrev pub label_in : RequirementTerm → List (List ℕ)
label_in (requirement.Label t) = t.label ∷ []
label_in _ = []

-- the labels of a tree's `label:` terms, in their order
abbrev mutual
  pub labels : Tree RequirementTerm → List (List ℕ)
  labels (Term a) = label_in a
  labels (Neg t) = labels t
  labels (All ts) = all_labels ts
  labels (Any ts) = all_labels ts

  pub all_labels : Trees RequirementTerm → List (List ℕ)
  all_labels End = []
  all_labels (With t ts) = labels t ++ all_labels ts
