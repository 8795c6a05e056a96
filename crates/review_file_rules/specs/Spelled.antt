-- The file that a document spells, with its expressions as texts. A part that is a fault of its own is left out, or another value stands for it: no document with that fault is read as a file.
use Rattle.std.specs.Option.{option_map_or}
use Rattle.std.specs.Prelude.{ℕ, ℤ, pos, int_le, neg_ℤ, List, [], codes, Bool, false, ◌&&◌, if◌then◌else◌, map, filter, unwrap_or, option_and_then, Option, Some, None}
use Rattle.toml.specs.Data.{Data, as_bool, get}
use Rattle.review_names.specs.{Forms.is_label, Forms.is_slashed_name, Names.is_word}
use Rattle.review_file_document.specs.Document.{members_at, values_of, text_at, text_of}
use Rattle.review_file_document.specs.Values.{value_of, end_at}
use Rattle.review_file_rules.specs.View.{AccessView, LabelView, RequirementView, FileView}
use Rattle.review_file_rules.specs.declared.parts.Grant.{Grant}

-- the groups that an array lists
abbrev pub groups_in : Data → List (List ℕ)
groups_in d = filter is_word (map text_of (values_of d))

-- the groups at a key
abbrev pub groups_at : List ℕ → Data → List (List ℕ)
groups_at key access = option_map_or groups_in (get key access) []

-- the rights in the table of that key
abbrev pub access_in : Data → AccessView
access_in access = record {
  create = groups_at (codes "create") access;
  upload = groups_at (codes "upload") access;
  submit = groups_at (codes "submit") access;
  abandon = groups_at (codes "abandon") access;
}

-- no rights, where the document has no such table
abbrev pub no_access : AccessView
no_access = record { create = []; upload = []; submit = []; abandon = [] }

-- a value that a key spells, with its text
abbrev pub value_in : List ℕ × Data → ℤ × List ℕ
value_in m = (unwrap_or (value_of m.0) (pos 0), text_of m.1)

-- an end of a range within -128 to 127; 0 beyond
abbrev pub narrowed : ℤ → ℤ
narrowed z = if int_le (neg_ℤ (pos 128)) z && int_le z (pos 127) then z else pos 0

-- a range that is granted to a group
abbrev pub grant_in : List ℕ × Data → Grant
grant_in m = record { group = m.0; least = narrowed (end_at 0 m.1); greatest = narrowed (end_at 1 m.1) }

-- a label, from its key and its table
abbrev pub label_in : List ℕ × Data → LabelView (List ℕ)
label_in m = record {
  name = m.0;
  values = map value_in (members_at (codes "values") m.1);
  grants = map grant_in (filter (λ g. is_word g.0) (members_at (codes "grant") m.1));
  copy_condition = text_at (codes "copyCondition") m.1;
}

-- whether a key has the value true
abbrev pub is_flag : List ℕ → Data → Bool
is_flag key d = unwrap_or (option_and_then as_bool (get key d)) false

-- a requirement, from its key and its table
abbrev pub requirement_in : List ℕ × Data → RequirementView (List ℕ)
requirement_in m = record {
  name = m.0;
  description = text_at (codes "description") m.1;
  applicable_if = text_at (codes "applicableIf") m.1;
  submittable_if = unwrap_or (text_at (codes "submittableIf") m.1) [];
  override_if = text_at (codes "overrideIf") m.1;
  can_override_in_child_projects = is_flag (codes "canOverrideInChildProjects") m.1;
}

-- the members whose keys are names of labels or requirements
abbrev pub named : List (List ℕ × Data) → List (List ℕ × Data)
named ms = filter (λ m. is_label m.0) ms

-- a text, where it is the name of a project
abbrev pub project_name : Option (List ℕ) → Option (List ℕ)
project_name None = None
project_name (Some text) = if is_slashed_name text then Some text else None

-- the parent that a document names
abbrev pub parent_in : Data → Option (List ℕ)
parent_in file = project_name (text_at (codes "parent") file)

-- the file that a document spells
abbrev pub spelled : Data → FileView (List ℕ)
spelled file = record {
  parent = parent_in file;
  description = text_at (codes "description") file;
  access = option_map_or access_in (get (codes "access") file) no_access;
  labels = map label_in (named (members_at (codes "label") file));
  requirements = map requirement_in (named (members_at (codes "submit-requirement") file));
}
