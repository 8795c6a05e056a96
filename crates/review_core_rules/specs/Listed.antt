-- Lists of what a change has by keys.
use Rattle.std.specs.{List.list_any, List.Sorted.IsStrictlySortedBy, Map.keys_of, Ordering.nat_cmp}
use Rattle.std.specs.Prelude.{ℕ, ◌≡◌, ◌==◌, Bool, List, Option}
use Rattle.{std.specs.declared.cmp.Ordering.Ordering, review_table.specs.Rows.row_in}

-- Rows in the order of their keys, each key once: just what each key has.
pub record AreListed {K V : Type 0} (cmp : K → K → Ordering) (what : K → Option V) (rows : List (K × V)) : Type 0 where
  pub ordered : IsStrictlySortedBy cmp (keys_of rows)
  pub each : (k : K) → row_in cmp rows k ≡ what k

-- Accounts in the order of their numbers, each once: just those that pass a test.
pub record AreThose (test : ℕ → Bool) (accounts : List ℕ) : Type 0 where
  pub ordered : IsStrictlySortedBy nat_cmp accounts
  pub each : (u : ℕ) → list_any (λ x. x == u) accounts ≡ test u
