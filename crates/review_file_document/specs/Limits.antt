-- The limits of a project file.
use Rattle.std.specs.{List.list_any, Option.option_map_or}
use Rattle.std.specs.Prelude.{ℕ, length, codes, nat_lt, Bool, false, ◌||◌}
use Rattle.toml.specs.Data.{Data}
use Rattle.review_file_document.specs.Document.{members_at, text_at, text_of}

-- the most bytes of a file
abbrev pub most_bytes : ℕ
most_bytes = 65536

-- the most labels, and the most requirements
abbrev pub most_parts : ℕ
most_parts = 64

-- the description of the file or of a requirement has more than 1,024 bytes
abbrev pub has_long_description : Data → Bool
has_long_description part = option_map_or (λ text. nat_lt 1024 (length text)) (text_at (codes "description") part) false

-- the text of some value of a label has more than 256 bytes
abbrev pub has_long_text : Data → Bool
has_long_text label = list_any (λ m. nat_lt 256 (length (text_of m.1))) (members_at (codes "values") label)

-- LIMIT: too many labels or requirements, or too long a description or a value's text
abbrev pub is_past_limits : Data → Bool
is_past_limits file =
    nat_lt most_parts (length (members_at (codes "label") file)) || (nat_lt most_parts (length (members_at (codes "submit-requirement") file))
    || (has_long_description file || (list_any (λ m. has_long_description m.1) (members_at (codes "submit-requirement") file)
    || list_any (λ m. has_long_text m.1) (members_at (codes "label") file))))
