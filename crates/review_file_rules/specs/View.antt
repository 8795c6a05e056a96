-- A project file as it is seen, over what its expressions are: texts, or what was read from them.
use Rattle.std.specs.Prelude.{ℕ, ℤ, Bool, List, Option}
use Rattle.review_file_rules.specs.declared.parts.Grant.{Grant}

-- who may create changes, upload patch sets to the changes of others, submit and abandon: lists of groups
pub record AccessView : Type 0 where
  pub create : List (List ℕ)
  pub upload : List (List ℕ)
  pub submit : List (List ℕ)
  pub abandon : List (List ℕ)

-- a label: its values with their texts in the order of their keys, its grants by group, and when a vote is copied
pub record LabelView (A : Type 0) : Type 0 where
  pub name : List ℕ
  pub values : List (ℤ × List ℕ)
  pub grants : List Grant
  pub copy_condition : Option A

-- a submit requirement
pub record RequirementView (A : Type 0) : Type 0 where
  pub name : List ℕ
  pub description : Option (List ℕ)
  pub applicable_if : Option A
  pub submittable_if : A
  pub override_if : Option A
  pub can_override_in_child_projects : Bool

-- a project file, with its labels and requirements by name; it may name a parent, a project whose file it goes on from
pub record FileView (A : Type 0) : Type 0 where
  pub parent : Option (List ℕ)
  pub description : Option (List ℕ)
  pub access : AccessView
  pub labels : List (LabelView A)
  pub requirements : List (RequirementView A)
