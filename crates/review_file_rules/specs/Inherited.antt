-- Effective files: what the file of a project inherits from its parent's.
use Rattle.std.specs.{Cmp.Lexicographic.slice_cmp, List.list_any, Option.option_map_or}
use Rattle.std.specs.Ordering.{match_ordering, nat_cmp}
use Rattle.std.specs.Prelude.{◌≡◌, ℕ, List, [], ◌∷◌, ◌++◌, Bool, true, None, filter, find, fold}
use Rattle.{std.specs.Str.bytes_eq, review_expr.specs.declared.expr.Expr.Expr}
use Rattle.review_file_rules.specs.{Expressions.requires_other, Reading.IsRead}
use Rattle.review_file_rules.specs.View.{AccessView, LabelView, RequirementView, FileView}

-- a thing put by its name among others that stand in the order of their names, in place of one of the same name
abbrev pub put_by : {X : Type 0} → (X → List ℕ) → List X → X → List X
put_by name [] x = x ∷ []
put_by name (y ∷ ys) x = match_ordering (slice_cmp nat_cmp (name x) (name y)) (x ∷ y ∷ ys) (x ∷ ys) (y ∷ put_by name ys x)

-- things in the order of their names, each put in turn: of one name the last stays
abbrev pub by_name : {X : Type 0} → (X → List ℕ) → List X → List X
by_name name xs = fold (put_by name) [] xs

-- the labels of a parent with those of a child, which take the place of those of the same name, grants included
abbrev pub inherited_labels : {A : Type 0} → List (LabelView A) → List (LabelView A) → List (LabelView A)
inherited_labels parent own = by_name (λ l. l.name) (parent ++ own)

-- an own requirement counts where the parent has none of its name, or lets children override the one that it has
abbrev pub counts : {A : Type 0} → List (RequirementView A) → RequirementView A → Bool
counts parent r = option_map_or (λ q. q.can_override_in_child_projects) (find (λ q. bytes_eq q.name r.name) parent) true

-- the requirements of a parent with those of a child that count, which take the place of those of the same name
abbrev pub inherited_requirements : {A : Type 0} → List (RequirementView A) → List (RequirementView A) → List (RequirementView A)
inherited_requirements parent own = by_name (λ r. r.name) (parent ++ filter (counts parent) own)

-- the groups of each right, those of the parent and the own ones
abbrev pub joined_access : AccessView → AccessView → AccessView
joined_access parent own = record {
  create = parent.create ++ own.create;
  upload = parent.upload ++ own.upload;
  submit = parent.submit ++ own.submit;
  abandon = parent.abandon ++ own.abandon;
}

-- The effective file of a project by its own file, where its parent has this effective file.
abbrev pub inherit : {A : Type 0} → FileView A → FileView A → FileView A
inherit parent own = record {
  parent = own.parent;
  description = own.description;
  access = joined_access parent.access own.access;
  labels = inherited_labels parent.labels own.labels;
  requirements = inherited_requirements parent.requirements own.requirements;
}

-- an own requirement, whether or not it counts, names a label that the effective file hasn't
abbrev pub inherits_unknown_label : FileView Expr → FileView Expr → Bool
inherits_unknown_label parent own = list_any (requires_other (inherited_labels parent.labels own.labels)) own.requirements

-- A file with nothing in it.
abbrev pub no_file : {A : Type 0} → FileView A
no_file = record { parent = None; description = None; access = record { create = []; upload = []; submit = []; abandon = [] }; labels = []; requirements = [] }

-- The effective file of a project by its own file and those of its ancestors, the parent's first: each goes on from the next one, and the last is its own.
abbrev pub effective : {A : Type 0} → FileView A → List (FileView A) → FileView A
effective own [] = own
effective own (parent ∷ above) = inherit (effective parent above) own

-- The texts of a project and of its ancestors spell this effective file: the own one stands first, the parent's next.
abbrev pub IsEffective : List (List ℕ) → FileView Expr → Type 0
IsEffective [] f = ⊥
IsEffective (text ∷ []) f = IsRead text f
IsEffective (text ∷ above) f = (own : FileView Expr) × (parent : FileView Expr) × IsRead text own × IsEffective above parent × (f ≡ inherit parent own)
