-- What is said of forms in other words than those by which they are read.
use Rattle.std.specs.{Char.is_ascii_alphabetic, Char.is_ascii_alphanumeric, List.list_all}
use Rattle.std.specs.Prelude.{ℕ, ◌≡◌, ◌<◌, ◌↔◌, List, [], ◌∷◌, Some, Bool, true, false, not, ◌&&◌, ◌||◌, ◌==◌, nat_le, length}
use Rattle.review_names.specs.{Forms.is_label, Numerals.numeral, Numerals.number_of}

-- A number below 2^64 is read from the text that shows it in decimal, and from no other text.
abbrev pub ReadsNumerals : Type 0
ReadsNumerals = (n : ℕ) (text : List ℕ) → (number_of text ≡ Some n) ↔ ((n < 18446744073709551616) × (numeral n ≡ text))

-- a letter, a digit or a hyphen
abbrev pub is_label_character : ℕ → Bool
is_label_character c = is_ascii_alphanumeric c || c == 45

-- a letter comes first
abbrev pub begins_with_letter : List ℕ → Bool
begins_with_letter [] = false
begins_with_letter (c ∷ cs) = is_ascii_alphabetic c

-- a letter comes right after each hyphen
abbrev pub has_letters_after_hyphens : List ℕ → Bool
has_letters_after_hyphens [] = true
has_letters_after_hyphens (c ∷ cs) = (not (c == 45) || begins_with_letter cs) && has_letters_after_hyphens cs

-- The name of a label is at most 40 letters, digits and hyphens, a letter first, and a letter right after each hyphen.
abbrev pub LabelsAreOfForm : Type 0
LabelsAreOfForm = (s : List ℕ) → is_label s ≡ (nat_le (length s) 40 && (begins_with_letter s && (list_all is_label_character s && has_letters_after_hyphens s)))
