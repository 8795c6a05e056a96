-- What a project file gives an account, and when one file covers another.
use Rattle.std.specs.{Int.int_min, Int.int_max, List.list_all, List.list_any, Option.option_map_or, Ordering.int_eq}
use Rattle.std.specs.Prelude.{ℕ, ℤ, pos, List, [], Bool, ◌&&◌, map, filter, find, fold}
use Rattle.std.specs.Str.{bytes_eq}
use Rattle.review_file_rules.specs.View.{AccessView, LabelView, FileView}
use Rattle.review_file_rules.specs.declared.parts.{Grant.Grant, Right.Right}
use Rattle.review_file_rules.specs.declared.parts.Right.TheVariants.{Create, Upload, Submit, Abandon}

-- a label has each value of another
abbrev pub has_values : List (ℤ × List ℕ) → List (ℤ × List ℕ) → Bool
has_values new old = list_all (λ v. list_any (λ w. int_eq w.0 v.0) new) old

-- a label stands among others with at least its values
abbrev pub is_covered : {A : Type 0} → List (LabelView A) → LabelView A → Bool
is_covered new label = list_any (λ l. bytes_eq l.name label.name && has_values l.values label.values) new

-- MIN: the least value, 0 being one
abbrev pub least_value : List (ℤ × List ℕ) → ℤ
least_value values = fold int_min (pos 0) (map (λ v. v.0) values)

-- MAX: the greatest value, 0 being one
abbrev pub greatest_value : List (ℤ × List ℕ) → ℤ
greatest_value values = fold int_max (pos 0) (map (λ v. v.0) values)

-- each label of the old file stands in the new one with at least its values
abbrev pub covers : {A : Type 0} → FileView A → FileView A → Bool
covers old new = list_all (is_covered new.labels) old.labels

-- the groups of a right
abbrev pub groups_of : Right → AccessView → List (List ℕ)
groups_of Create access = access.create
groups_of Upload access = access.upload
groups_of Submit access = access.submit
groups_of Abandon access = access.abandon

-- a file gives a right to an account that is in these groups: it is in one of those of the right
abbrev pub may : {A : Type 0} → FileView A → Right → (List ℕ → Bool) → Bool
may file right is_in = list_any is_in (groups_of right file.access)

-- the grants of a label; none where the file doesn't have it
abbrev pub grants_of : {A : Type 0} → FileView A → List ℕ → List Grant
grants_of file name = option_map_or (λ l. l.grants) (find (λ l. bytes_eq l.name name) file.labels) []

-- the grants of a label to an account that is in these groups
abbrev pub granted : {A : Type 0} → FileView A → List ℕ → (List ℕ → Bool) → List Grant
granted file label is_in = filter (λ g. is_in g.group) (grants_of file label)

-- the least of 0 and the least values of the ranges that are granted to an account
abbrev pub least_of : List Grant → ℤ
least_of grants = fold int_min (pos 0) (map (λ g. g.least) grants)

-- the greatest of 0 and the greatest values of the ranges that are granted to an account
abbrev pub greatest_of : List Grant → ℤ
greatest_of grants = fold int_max (pos 0) (map (λ g. g.greatest) grants)
