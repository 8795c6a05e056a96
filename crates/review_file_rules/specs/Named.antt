-- The groups that expressions name: no other group decides whether one holds.
use Rattle.std.specs.{List.AllByRecursion, Option.option_map_or}
use Rattle.std.specs.Prelude.{ℕ, ◌≡◌, List, [], ◌∷◌, ◌++◌, flat_map}
use Rattle.review_names.specs.Groups.{has_account, GroupList}
use Rattle.review_expr_terms.specs.Grammar.{Tree, Term, Neg, All, Any, Trees, End, With}
use Rattle.review_expr_terms.specs.Views.{view}
use Rattle.review_expr_terms.specs.declared.terms.{CopyTerm.CopyTerm, RequirementTerm.RequirementTerm, Voters.Voters}
use Rattle.review_expr.specs.declared.expr.Expr.{Expr}
use Rattle.review_file_rules.specs.View.{FileView, LabelView, RequirementView}
use Rattle.review_expr_terms.specs.declared.terms.CopyTerm.TheVariants as copy
use Rattle.review_expr_terms.specs.declared.terms.RequirementTerm.TheVariants as requirement
use Rattle.review_expr_terms.specs.declared.terms.Voters.TheVariants as voters
use Rattle.review_expr.specs.declared.expr.Expr.TheVariants as expr

-- the group that a term of a copy condition names
abbrev pub copy_group : CopyTerm → List (List ℕ)
copy_group (copy.ApproverIn group) = group ∷ []
copy_group (copy.UploaderIn group) = group ∷ []
copy_group _ = []

-- the group whose votes a `label:` term counts
abbrev pub voters_group : Voters → List (List ℕ)
voters_group (voters.Group group) = group ∷ []
voters_group _ = []

-- the group that a term of a submit requirement names
abbrev pub requirement_group : RequirementTerm → List (List ℕ)
requirement_group (requirement.Label t) = voters_group t.voters
requirement_group (requirement.UploaderIn group) = group ∷ []
requirement_group (requirement.OwnerIn group) = group ∷ []
requirement_group _ = []

-- the groups that the terms of a tree name, in their order
abbrev mutual
  pub named : {A : Type 0} → (A → List (List ℕ)) → Tree A → List (List ℕ)
  named group (Term a) = group a
  named group (Neg t) = named group t
  named group (All ts) = all_named group ts
  named group (Any ts) = all_named group ts

  pub all_named : {A : Type 0} → (A → List (List ℕ)) → Trees A → List (List ℕ)
  all_named group End = []
  all_named group (With t ts) = named group t ++ all_named group ts

-- the groups that an expression names
abbrev pub groups_in : Expr → List (List ℕ)
groups_in (expr.Requirement e) = named requirement_group (view e.node)
groups_in (expr.Copy e) = named copy_group (view e.node)

-- the groups that the copy conditions of labels name
abbrev pub copying_groups : List (LabelView Expr) → List (List ℕ)
copying_groups labels = flat_map (λ label. option_map_or groups_in label.copy_condition []) labels

-- the groups that the copy conditions of a file name
abbrev pub copy_groups : FileView Expr → List (List ℕ)
copy_groups file = copying_groups file.labels

-- the groups that a submit requirement names
abbrev pub groups_of_requirement : RequirementView Expr → List (List ℕ)
groups_of_requirement q = option_map_or groups_in q.applicable_if [] ++ (option_map_or groups_in q.override_if [] ++ groups_in q.submittable_if)

-- the groups that the submit requirements of a file name
abbrev pub required_groups : FileView Expr → List (List ℕ)
required_groups file = flat_map groups_of_requirement file.requirements

-- two lists of groups have the same accounts in a group
abbrev pub SameIn : GroupList → GroupList → List ℕ → Type 0
SameIn a b group = (account : ℕ) → has_account a group account ≡ has_account b group account

-- two lists of groups have the same accounts in each of these groups
abbrev pub SameInAll : GroupList → GroupList → List (List ℕ) → Type 0
SameInAll a b groups = AllByRecursion (SameIn a b) groups
