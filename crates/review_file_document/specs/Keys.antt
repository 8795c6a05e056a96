-- The keys of a project file: which it may have, of which types, and which have to be there.
use Rattle.std.specs.{List.list_any, Option.option_map_or}
use Rattle.std.specs.Prelude.{ℕ, List, length, codes, Bool, true, not, ◌||◌, ◌==◌, if◌then◌else◌, is_none}
use Rattle.std.specs.Str.{bytes_eq}
use Rattle.toml.specs.Data.{Data, Items, as_str, as_bool, as_integer, as_array, get}
use Rattle.review_file_document.specs.Document.{values, members_at, is_no_table_of, is_no_array_of}

-- whether a value is no text
abbrev pub is_no_text : Data → Bool
is_no_text d = is_none (as_str d)

-- whether a value is no whole number
abbrev pub is_no_integer : Data → Bool
is_no_integer d = is_none (as_integer d)

-- not two whole numbers
abbrev pub are_no_ends : Items → Bool
are_no_ends ds = not (length (values ds) == 2) || list_any is_no_integer (values ds)

-- a value is no array of two whole numbers
abbrev pub is_no_pair : Data → Bool
is_no_pair d = option_map_or are_no_ends (as_array d) true

-- the keys of `access`
abbrev pub is_right : List ℕ → Bool
is_right key = bytes_eq key (codes "create") || (bytes_eq key (codes "upload") || (bytes_eq key (codes "submit") || bytes_eq key (codes "abandon")))

-- `access` has lists of texts
abbrev pub is_wrong_in_access : List ℕ × Data → Bool
is_wrong_in_access m = if is_right m.0 then is_no_array_of is_no_text m.1 else true

-- a label has a copy condition, values with their texts, and grants of ranges
abbrev pub is_wrong_in_label : List ℕ × Data → Bool
is_wrong_in_label m =
    if bytes_eq m.0 (codes "copyCondition") then is_no_text m.1
    else if bytes_eq m.0 (codes "values") then is_no_table_of (λ v. is_no_text v.1) m.1
    else if bytes_eq m.0 (codes "grant") then is_no_table_of (λ g. is_no_pair g.1) m.1
    else true

-- the keys of a submit requirement whose values are texts
abbrev pub is_text_key : List ℕ → Bool
is_text_key key =
    bytes_eq key (codes "description") || (bytes_eq key (codes "applicableIf") || (bytes_eq key (codes "submittableIf") || bytes_eq key (codes "overrideIf")))

-- a submit requirement has a description, three expressions, and whether children may override it
abbrev pub is_wrong_in_requirement : List ℕ × Data → Bool
is_wrong_in_requirement m =
    if is_text_key m.0 then is_no_text m.1
    else if bytes_eq m.0 (codes "canOverrideInChildProjects") then is_none (as_bool m.1)
    else true

-- a key of the whole file isn't known, or has a value of another type, or one in which a key isn't known or has a value of another type
abbrev pub is_wrong : List ℕ × Data → Bool
is_wrong m =
    if bytes_eq m.0 (codes "description") then is_no_text m.1
    else if bytes_eq m.0 (codes "parent") then is_no_text m.1
    else if bytes_eq m.0 (codes "access") then is_no_table_of is_wrong_in_access m.1
    else if bytes_eq m.0 (codes "label") then is_no_table_of (λ l. is_no_table_of is_wrong_in_label l.1) m.1
    else if bytes_eq m.0 (codes "submit-requirement") then is_no_table_of (λ r. is_no_table_of is_wrong_in_requirement r.1) m.1
    else true

-- UNKNOWN_KEY: an unknown key anywhere, or a value of another type
abbrev pub has_unknown_key : Data → Bool
has_unknown_key file = is_no_table_of is_wrong file

-- some member of the table at a key has no member at another
abbrev pub some_lacks : List ℕ → List ℕ → Data → Bool
some_lacks section key file = list_any (λ m. is_none (get key m.1)) (members_at section file)

-- MISSING: a label without values, or a requirement that doesn't say when a change is submittable
abbrev pub lacks_key : Data → Bool
lacks_key file = some_lacks (codes "label") (codes "values") file || some_lacks (codes "submit-requirement") (codes "submittableIf") file
