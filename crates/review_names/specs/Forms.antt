-- The forms of the names of labels, projects, branches, commits and paths, of subjects and messages, and of the numbers of changes, patch sets and comments.
use Rattle.std.specs.{BTreeSet.insert_key, Char.is_ascii_alphabetic, Char.is_ascii_alphanumeric, Char.is_ascii_control}
use Rattle.std.specs.{Cmp.Lexicographic.slice_cmp, Int.is_in_range, List.list_all, Ordering.nat_cmp}
use Rattle.std.specs.Prelude.{ℕ, List, [], ◌∷◌, Bool, true, false, not, ◌&&◌, ◌||◌, ◌==◌, ◌≡◌, refl, nat_le, if◌then◌else◌, length, codes}
use Rattle.{std.specs.Str.bytes_eq, review_names.specs.Names.is_plain, review_names.specs.Names.is_account_number}

-- letters, digits and hyphens to the end, each hyphen before a letter; the flag: a letter has to come first
abbrev pub goes_on : Bool → List ℕ → Bool
goes_on letter [] = not letter
goes_on letter (c ∷ cs) = if letter then is_ascii_alphabetic c && goes_on false cs else ((is_ascii_alphanumeric c || c == 45) && goes_on (c == 45) cs)

-- the name of a label: 1 to 40 letters, digits and hyphens, a letter first, and each hyphen before a letter
unfoldable pub is_label : List ℕ → Bool
is_label s = nat_le (length s) 40 && goes_on true s

-- a byte in front of the first of the parts
abbrev pub with_front : ℕ → List (List ℕ) → List (List ℕ)
with_front c [] = (c ∷ []) ∷ []
with_front c (part ∷ parts) = (c ∷ part) ∷ parts

-- the components of a text: what stands between its slashes
abbrev pub components : List ℕ → List (List ℕ)
components [] = [] ∷ []
components (c ∷ cs) = if c == 47 then [] ∷ components cs else with_front c (components cs)

-- plain characters, at least one, and neither `.` nor `..`
unfoldable pub is_step : List ℕ → Bool
is_step s = nat_le 1 (length s) && list_all is_plain s && not (bytes_eq s (codes ".")) && not (bytes_eq s (codes ".."))

-- the name of a project or a branch: steps joined by slashes, at most 128 bytes
unfoldable pub is_slashed_name : List ℕ → Bool
is_slashed_name s = nat_le (length s) 128 && list_all is_step (components s)

-- a digit, or a small letter from a to f
abbrev pub is_hexadecimal : ℕ → Bool
is_hexadecimal c = is_in_range 48 57 c || is_in_range 97 102 c

-- the name of a commit: 40 hexadecimal digits
unfoldable pub is_commit : List ℕ → Bool
is_commit s = length s == 40 && list_all is_hexadecimal s

-- the name of a file or folder: at least one byte, and no control character of ASCII
unfoldable pub is_path_step : List ℕ → Bool
is_path_step s = nat_le 1 (length s) && list_all (λ c. not (is_ascii_control c)) s

-- a path: files joined by slashes, at most 512 bytes
unfoldable pub is_path : List ℕ → Bool
is_path s = nat_le (length s) 512 && list_all is_path_step (components s)

-- the place of comments on a change's message
abbrev pub commit_message : List ℕ
commit_message = codes "/COMMIT_MSG"

-- the place of comments on a patch set as a whole
abbrev pub patch_set_level : List ℕ
patch_set_level = codes "/PATCHSET_LEVEL"

-- the place of a comment: a path, the change's message or the patch set as a whole
unfoldable pub is_place : List ℕ → Bool
is_place s = is_path s || bytes_eq s commit_message || bytes_eq s patch_set_level

-- a line of text: 1 to 512 bytes, and no control character of ASCII
unfoldable pub is_line : List ℕ → Bool
is_line s = nat_le 1 (length s) && nat_le (length s) 512 && list_all (λ c. not (is_ascii_control c)) s

-- a message: at most 8,192 bytes, and no U+0000
unfoldable pub is_message : List ℕ → Bool
is_message s = nat_le (length s) 8192 && list_all (λ c. not (c == 0)) s

-- a number from 1 to the greatest one
unfoldable pub is_within : ℕ → ℕ → Bool
is_within most n = nat_le 1 n && nat_le n most

-- The numbers of accounts are those from 1 to 1,000,000.
pub accounts_span : (n : ℕ) → is_account_number n ≡ is_within 1000000 n
unfolding is_account_number is_within
accounts_span n = refl

-- the set of the texts in a list: in the order of their bytes, each once
abbrev pub text_set : List (List ℕ) → List (List ℕ)
text_set [] = []
text_set (s ∷ ss) = insert_key (slice_cmp nat_cmp) (text_set ss) s

-- the most paths of a patch set
abbrev pub most_paths : ℕ
most_paths = 500

-- the greatest number of a change
abbrev pub most_changes : ℕ
most_changes = 1000000000

-- the greatest number of a patch set
abbrev pub most_patches : ℕ
most_patches = 1000

-- the greatest number of a comment
abbrev pub most_comments : ℕ
most_comments = 10000
