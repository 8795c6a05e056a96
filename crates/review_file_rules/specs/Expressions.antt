-- The expressions of a project file: what its texts are read as, and which of them is the first that is none.
use Rattle.std.specs.{List.list_any, Option.option_map_or}
use Rattle.std.specs.Prelude.{◌≡◌, ◌⊎◌, ℕ, List, [], ◌∷◌, Option, Some, None, Bool, false, not, is_none, ◌&&◌, ◌||◌}
use Rattle.{std.specs.Str.bytes_eq, review_names.specs.Forms.text_set}
use Rattle.review_expr_spelling.specs.Words.{requirement_reading, copy_reading, IsDeep, IsPattern}
use Rattle.review_expr.specs.Expressions.{IsParseFault}
use Rattle.review_expr.specs.Exprs.{IsCopyOf, IsRequirementOf, NoWord, labels_in}
use Rattle.review_expr.specs.declared.{expr.Expr.Expr, fault.ParseFault.ParseFault}
use Rattle.review_file_rules.specs.View.{LabelView, RequirementView, FileView}

-- the text is no copy condition, for this cause
abbrev pub IsNoCopy : List ℕ → ParseFault → Type 0
IsNoCopy text fault = IsParseFault copy_reading NoWord NoWord text fault

-- the text is no expression of a requirement, for this cause
abbrev pub IsNoRequirement : List ℕ → ParseFault → Type 0
IsNoRequirement text fault = IsParseFault requirement_reading IsDeep IsPattern text fault

-- two lists have as many members, which stand in a relation one by one
abbrev pub EachTo : {A B : Type 0} → (A → B → Type 0) → List A → List B → Type 0
EachTo R [] [] = Unit {0}
EachTo R (x ∷ xs) (y ∷ ys) = R x y × EachTo R xs ys
EachTo R _ _ = ⊥

-- a text is an expression, where there is one
abbrev pub IfThere : (List ℕ → Expr → Type 0) → Option (List ℕ) → Option Expr → Type 0
IfThere Is None None = Unit {0}
IfThere Is (Some text) (Some e) = Is text e
IfThere Is _ _ = ⊥

-- every text is some expression
abbrev pub AllRead : (List ℕ → Expr → Type 0) → List (List ℕ) → Type 0
AllRead Is [] = Unit {0}
AllRead Is (text ∷ texts) = ((e : Expr) × Is text e) × AllRead Is texts

-- the first text that is no expression is none for this cause
abbrev pub FirstFault : (List ℕ → Expr → Type 0) → (List ℕ → ParseFault → Type 0) → List (List ℕ) → ParseFault → Type 0
FirstFault Is IsNo [] fault = ⊥
FirstFault Is IsNo (text ∷ texts) fault = IsNo text fault ⊎ (((e : Expr) × Is text e) × FirstFault Is IsNo texts fault)

-- a text, if it is there, before others
abbrev pub with_text : Option (List ℕ) → List (List ℕ) → List (List ℕ)
with_text None texts = texts
with_text (Some text) texts = text ∷ texts

-- the copy conditions of labels, in their order
abbrev pub copy_texts : List (LabelView (List ℕ)) → List (List ℕ)
copy_texts [] = []
copy_texts (l ∷ ls) = with_text l.copy_condition (copy_texts ls)

-- the expressions of a requirement before other texts: applicable, submittable, override
abbrev pub with_texts : RequirementView (List ℕ) → List (List ℕ) → List (List ℕ)
with_texts r texts = with_text r.applicable_if (r.submittable_if ∷ with_text r.override_if texts)

-- the expressions of requirements, in their order
abbrev pub requirement_texts : List (RequirementView (List ℕ)) → List (List ℕ)
requirement_texts [] = []
requirement_texts (r ∷ rs) = with_texts r (requirement_texts rs)

-- a label is the spelled one, with its copy condition read
abbrev pub IsLabel : LabelView (List ℕ) → LabelView Expr → Type 0
IsLabel p l = (l.name ≡ p.name) × (l.values ≡ p.values) × (l.grants ≡ p.grants) × IfThere IsCopyOf p.copy_condition l.copy_condition

-- a requirement is the spelled one, with its expressions read
abbrev pub IsRequirement : RequirementView (List ℕ) → RequirementView Expr → Type 0
IsRequirement p r =
    (r.name ≡ p.name) × (r.description ≡ p.description) × (r.can_override_in_child_projects ≡ p.can_override_in_child_projects)
    × IfThere IsRequirementOf p.applicable_if r.applicable_if × IsRequirementOf p.submittable_if r.submittable_if × IfThere IsRequirementOf p.override_if r.override_if

-- a file is the spelled one, with its expressions read
abbrev pub IsFile : FileView (List ℕ) → FileView Expr → Type 0
IsFile p f = (f.description ≡ p.description) × (f.access ≡ p.access) × EachTo IsLabel p.labels f.labels × EachTo IsRequirement p.requirements f.requirements × (f.parent ≡ p.parent)

-- the first expression of a file that is none, copy conditions before requirements, is none for this cause
abbrev pub IsStoppedBy : FileView (List ℕ) → ParseFault → Type 0
IsStoppedBy p fault =
    FirstFault IsCopyOf IsNoCopy (copy_texts p.labels) fault
    ⊎ (AllRead IsCopyOf (copy_texts p.labels) × FirstFault IsRequirementOf IsNoRequirement (requirement_texts p.requirements) fault)

-- an expression names a label that isn't among these
abbrev pub names_other : List (LabelView Expr) → Expr → Bool
names_other labels e = list_any (λ name. not (list_any (λ l. bytes_eq l.name name) labels)) (text_set (labels_in e))

-- a requirement names a label that is not among these
abbrev pub requires_other : List (LabelView Expr) → RequirementView Expr → Bool
requires_other labels r =
    option_map_or (names_other labels) r.applicable_if false || (names_other labels r.submittable_if || option_map_or (names_other labels) r.override_if false)

-- some requirement of a file names a label that the file hasn't
abbrev pub names_unknown_label : FileView Expr → Bool
names_unknown_label f = list_any (requires_other f.labels) f.requirements

-- a file without a parent has a requirement that names a label which the file hasn't; one with a parent may name the parent's
abbrev pub has_unknown_label : FileView Expr → Bool
has_unknown_label f = is_none f.parent && names_unknown_label f
