-- The forms of names and numbers.
use Rattle.std.specs.{BTreeSet.insert_key, Char.is_ascii_alphanumeric, List.list_all, Ordering.nat_cmp}
use Rattle.std.specs.Prelude.{ℕ, List, [], ◌∷◌, Bool, ◌&&◌, ◌||◌, ◌==◌, nat_le, length, codes}

-- a letter, a digit, a dot, an underscore or a hyphen
abbrev pub is_plain : ℕ → Bool
is_plain b = is_ascii_alphanumeric b || b == 46 || b == 95 || b == 45

-- the name of an account or a group, or a request's id: 1 to 64 plain characters
unfoldable pub is_word : List ℕ → Bool
is_word s = nat_le 1 (length s) && nat_le (length s) 64 && list_all is_plain s

-- the number of an account: 1 to 1,000,000
unfoldable pub is_account_number : ℕ → Bool
is_account_number n = nat_le 1 n && nat_le n 1000000

-- the set of the numbers in a list: in order, each once
abbrev pub set_of : List ℕ → List ℕ
set_of [] = []
set_of (n ∷ ns) = insert_key nat_cmp (set_of ns) n

-- the most members of a group
abbrev pub most_members : ℕ
most_members = 1024

-- the group whose members run the desk
abbrev pub administrators : List ℕ
administrators = codes "Administrators"

-- the group that holds every account
abbrev pub registered_users : List ℕ
registered_users = codes "Registered-Users"

-- the name of the first account
abbrev pub admin_name : List ℕ
admin_name = codes "admin"
