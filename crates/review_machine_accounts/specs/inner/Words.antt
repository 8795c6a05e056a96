-- Words that only proofs and private clauses use.
use Rattle.std.specs.{List.filter, List.list_any, Ordering.nat_cmp}
use Rattle.std.specs.Prelude.{ℕ, List, Bool, is_some, Some, not, map, ◌==◌, None}
use Rattle.review_table.specs.{Rows.row_in, declared.table.RowEdit.RowEdit}
use Rattle.review_machine_rows.specs.declared.rows.MemberKey.{MemberKey as Member}

-- the key of an account in a group
abbrev pub member_of : List ℕ → ℕ → Member
member_of group account = record { group = group; account = account }

-- whether an account is among the members that a group has
abbrev pub is_held : List (ℕ × Unit {0}) → ℕ → Bool
is_held held account = is_some (row_in nat_cmp held account)

-- the new members of a group
abbrev pub added : List ℕ → List (ℕ × Unit {0}) → List ℕ → List (RowEdit Member (Unit {0}))
added group held members =
    map (λ a. record { key = member_of group a; row = Some tt }) (filter (λ a. not (is_held held a)) members)

-- a member of the group that is none of these
abbrev pub leaves : List ℕ → ℕ → Bool
leaves members account = not (list_any (λ n. n == account) members)

-- the members of a group that are to leave it
abbrev pub dropped : List ℕ → List (ℕ × Unit {0}) → List ℕ → List (RowEdit Member (Unit {0}))
dropped group held members = map (λ e. record { key = member_of group e.0; row = None }) (filter (λ e. leaves members e.0) held)
