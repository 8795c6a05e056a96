-- The names in a project file.
use Rattle.std.specs.{List.list_any, Option.option_map_or}
use Rattle.std.specs.Prelude.{ℕ, List, codes, Bool, false, not, ◌||◌}
use Rattle.toml.specs.Data.{Data}
use Rattle.review_names.specs.{Forms.is_label, Forms.is_slashed_name, Names.is_word}
use Rattle.review_file_document.specs.Document.{members_at, values_of, text_at, text_of}

-- some key is no name of a label or a requirement
abbrev pub has_bad_label : List (List ℕ × Data) → Bool
has_bad_label ms = list_any (λ m. not (is_label m.0)) ms

-- some key is no name of a group
abbrev pub has_bad_group : List (List ℕ × Data) → Bool
has_bad_group ms = list_any (λ m. not (is_word m.0)) ms

-- some text of an array is no name of a group
abbrev pub lists_bad_group : Data → Bool
lists_bad_group d = list_any (λ v. not (is_word (text_of v))) (values_of d)

-- the parent is no name of a project
abbrev pub has_bad_parent : Data → Bool
has_bad_parent file = option_map_or (λ name. not (is_slashed_name name)) (text_at (codes "parent") file) false

-- BAD_NAME: the name of a label or a requirement is none, or that of a group in a list of `access` or in a grant, or that of the parent
abbrev pub has_bad_name : Data → Bool
has_bad_name file =
    has_bad_label (members_at (codes "label") file) || (has_bad_label (members_at (codes "submit-requirement") file)
    || (list_any (λ m. lists_bad_group m.1) (members_at (codes "access") file)
    || (list_any (λ m. has_bad_group (members_at (codes "grant") m.1)) (members_at (codes "label") file) || has_bad_parent file)))
