-- Who is in a group.
use Rattle.std.specs.{BTreeMap.is_at, Cmp.Lexicographic.slice_cmp, List.list_any, Map.lookup, Ordering.nat_cmp}
use Rattle.std.specs.Prelude.{ℕ, List, [], Bool, ◌||◌, ◌==◌, unwrap_or}
use Rattle.{std.specs.Str.bytes_eq, review_names.specs.Names.registered_users}

-- groups, each with its members
abbrev pub GroupList : Type 0
GroupList = List (List ℕ × List ℕ)

-- the members of a group; one that was never put has none
abbrev pub members_in : GroupList → List ℕ → List ℕ
members_in groups group = unwrap_or (lookup (is_at (slice_cmp nat_cmp group)) groups) []

-- whether an account is in a group; every account is in `Registered-Users`
abbrev pub has_account : GroupList → List ℕ → ℕ → Bool
has_account groups group account = bytes_eq group registered_users || list_any (λ m. m == account) (members_in groups group)
