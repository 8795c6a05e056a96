-- What is true of every project file.
use Rattle.std.specs.{Cmp.Lexicographic.slice_cmp, List.All, List.list_all, List.list_any}
use Rattle.std.specs.{List.Sorted.IsStrictlySortedBy, Ordering.int_eq, Ordering.nat_cmp}
use Rattle.std.specs.Prelude.{◌≡◌, ℕ, ℤ, pos, neg_ℤ, List, [], ◌∷◌, Bool, true, false, not, ◌&&◌, ◌||◌, length, map, nat_lt, int_lt, int_le}
use Rattle.{review_file_document.specs.Values.towards_zero, review_expr.specs.declared.expr.Expr.Expr}
use Rattle.review_file_rules.specs.{View.LabelView, View.FileView, declared.parts.Grant.Grant}

-- a number is one of these values
abbrev pub is_value : List (ℤ × List ℕ) → ℤ → Bool
is_value values v = list_any (λ w. int_eq w.0 v) values

-- a number is beyond -20 to 20
abbrev pub is_far : ℤ → Bool
is_far v = int_lt v (neg_ℤ (pos 20)) || int_lt (pos 20) v

-- some number stands twice among values
abbrev pub has_number_twice : List (ℤ × List ℕ) → Bool
has_number_twice [] = false
has_number_twice (v ∷ vs) = is_value vs v.0 || has_number_twice vs

-- Two or more values from -20 to 20, no number twice: 0 is one, and with each value the next one towards 0
abbrev pub is_run : List (ℤ × List ℕ) → Bool
is_run values =
    not (nat_lt (length values) 2)
    && (is_value values (pos 0) && (not (has_number_twice values) && list_all (λ v. not (is_far v.0) && is_value values (towards_zero v.0)) values))

-- the ends of a grant are values, the first not above the second
abbrev pub is_range : List (ℤ × List ℕ) → Grant → Bool
is_range values g = is_value values g.least && (is_value values g.greatest && int_le g.least g.greatest)

-- the values of a label are a run, and its grants are ranges of them
abbrev pub is_sound_label : LabelView Expr → Bool
is_sound_label l = is_run l.values && list_all (is_range l.values) l.grants

-- each label of a file is sound
abbrev pub has_sound_labels : FileView Expr → Bool
has_sound_labels f = list_all is_sound_label f.labels

-- the names of the labels ascend in the order of their bytes, and so do those of the requirements: each stands once
abbrev pub HasNamesInOrder : FileView Expr → Type 0
HasNamesInOrder f = IsStrictlySortedBy (slice_cmp nat_cmp) (map (λ l. l.name) f.labels) × IsStrictlySortedBy (slice_cmp nat_cmp) (map (λ r. r.name) f.requirements)

-- and so do the groups that each label grants a range
abbrev pub HasGroupsInOrder : FileView Expr → Type 0
HasGroupsInOrder f = All (λ l. IsStrictlySortedBy (slice_cmp nat_cmp) (map (λ g. g.group) l.grants)) f.labels

-- A file is sound: its labels are, and the names of its labels, requirements and granted groups ascend. So it is of each that a text spells, and of each effective file.
abbrev pub IsSoundFile : FileView Expr → Type 0
IsSoundFile f = (has_sound_labels f ≡ true) × HasNamesInOrder f × HasGroupsInOrder f
