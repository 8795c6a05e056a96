-- The rows of a desk of no request.
use Rattle.std.specs.{BTreeMap.is_at, Ordering.nat_cmp}
use Rattle.std.specs.Prelude.{ℕ, ◌≡◌, List, Some, None, if◌then◌else◌}
use Rattle.review_names.specs.Names.{administrators, admin_name}
use Rattle.review_table.specs.Rows.{row_in}
use Rattle.review_machine_rows.specs.{Rows.member_cmp, declared.rows.MemberKey.MemberKey as Member}
use Rattle.review_memory.specs.{Desk.name_cmp, declared.keys.NameKey.NameKey}

-- the first name that the index has
abbrev pub first_name : NameKey
first_name = record { name = admin_name; account = 1 }

-- the first member that a group has
abbrev pub first_member : Member
first_member = record { group = administrators; account = 1 }

-- the account of a desk of no request
abbrev pub HasAccount : List (ℕ × List ℕ) → Type 0
HasAccount accounts = (q : ℕ) → row_in nat_cmp accounts q ≡ (if is_at (nat_cmp 1) q then Some admin_name else None)

-- its name in the index
abbrev pub HasName : List (NameKey × Unit {0}) → Type 0
HasName names = (q : NameKey) → row_in name_cmp names q ≡ (if is_at (name_cmp first_name) q then Some tt else None)

-- the account is in its group
abbrev pub HasMember : List (Member × Unit {0}) → Type 0
HasMember members = (q : Member) → row_in member_cmp members q ≡ (if is_at (member_cmp first_member) q then Some tt else None)
