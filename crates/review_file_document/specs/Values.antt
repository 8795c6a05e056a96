-- The values of a label.
use Rattle.std.specs.{Int.is_in_range, List.list_any, Option.option_map_or, Ordering.int_eq}
use Rattle.std.specs.Prelude.{ℕ, ℤ, pos, neg_ℤ, ◌+ℤ◌, ◌-ℤ◌, ◌-◌, ◌+◌, ◌*◌, ◌==◌, nat_lt, int_lt, int_le, length, codes, Bool, true, false, not, ◌||◌, ◌&&◌, List, [], ◌∷◌, Option, Some, None, if◌then◌else◌, option_map, option_and_then, unwrap_or}
use Rattle.{std.specs.Str.bytes_eq, toml.specs.Data.Data, toml.specs.Data.as_integer, toml.specs.Data.at}
use Rattle.review_file_document.specs.Document.{members_at}

-- 1 to 99 in decimal, without leading zeros
abbrev pub digits : List ℕ → Option ℤ
digits [] = None
digits (d ∷ []) = if is_in_range 49 57 d then Some (pos (d - 48)) else None
digits (d ∷ e ∷ []) = if is_in_range 49 57 d && is_in_range 48 57 e then Some (pos ((d - 48) * 10 + (e - 48))) else None
digits (d ∷ e ∷ f ∷ rest) = None

-- the value that a key spells: `0`, or 1 to 99 with a sign or without one
abbrev pub value_of : List ℕ → Option ℤ
value_of [] = None
value_of (c ∷ rest) =
    if bytes_eq (c ∷ rest) (codes "0") then Some (pos 0)
    else if c == 43 then digits rest
    else if c == 45 then option_map neg_ℤ (digits rest)
    else digits (c ∷ rest)

-- whether a key spells a value
abbrev pub spells : ℤ → List ℕ → Bool
spells v key = option_map_or (λ w. int_eq w v) (value_of key) false

-- whether some key spells a value
abbrev pub has_value : ℤ → List (List ℕ × Data) → Bool
has_value v ms = list_any (λ m. spells v m.0) ms

-- whether another key spells the value of this one
abbrev pub has_double : List (List ℕ × Data) → List ℕ → Bool
has_double ms key = option_map_or (λ v. list_any (λ m. not (bytes_eq m.0 key) && spells v m.0) ms) (value_of key) false

-- some value stands under two keys
abbrev pub has_twice : List (List ℕ × Data) → Bool
has_twice ms = list_any (λ m. has_double ms m.0) ms

-- TWICE: a label has one value under two keys
abbrev pub has_value_twice : Data → Bool
has_value_twice file = list_any (λ m. has_twice (members_at (codes "values") m.1)) (members_at (codes "label") file)

-- the next number towards 0
abbrev pub towards_zero : ℤ → ℤ
towards_zero v = if int_lt (pos 0) v then v -ℤ pos 1 else (if int_lt v (pos 0) then v +ℤ pos 1 else v)

-- a value is beyond -20 to 20, or a gap follows it on the way to 0
abbrev pub is_bad_value : List (List ℕ × Data) → ℤ → Bool
is_bad_value ms v = int_lt v (neg_ℤ (pos 20)) || (int_lt (pos 20) v || not (has_value (towards_zero v) ms))

-- a key is no value, or a bad one
abbrev pub is_bad_key : List (List ℕ × Data) → List ℕ → Bool
is_bad_key ms key = option_map_or (is_bad_value ms) (value_of key) true

-- the number at a place of an array; 0 where there is none
abbrev pub end_at : ℕ → Data → ℤ
end_at n range = unwrap_or (option_and_then as_integer (at n range)) (pos 0)

-- the ends of a grant aren't values in order
abbrev pub is_bad_grant : List (List ℕ × Data) → Data → Bool
is_bad_grant ms range = not (has_value (end_at 0 range) ms && (has_value (end_at 1 range) ms && int_le (end_at 0 range) (end_at 1 range)))

-- keys aren't those of two or more values in an unbroken run, 0 among them
abbrev pub is_no_run : List (List ℕ × Data) → Bool
is_no_run ms = nat_lt (length ms) 2 || (not (has_value (pos 0) ms) || list_any (λ m. is_bad_key ms m.0) ms)

-- the values of a label are no run, or the ends of a grant aren't values in order
abbrev pub is_bad_label : Data → Bool
is_bad_label label =
    is_no_run (members_at (codes "values") label) || list_any (λ g. is_bad_grant (members_at (codes "values") label) g.1) (members_at (codes "grant") label)

-- BAD_VALUES: a label has bad values or bad grants
abbrev pub has_bad_values : Data → Bool
has_bad_values file = list_any (λ m. is_bad_label m.1) (members_at (codes "label") file)
