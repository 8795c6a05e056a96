-- How many votes pass a test.
use Rattle.std.specs.List.{list_any}
use Rattle.std.specs.Prelude.{ℕ, ◌≡◌, ◌==◌, ◌&&◌, List, [], ◌∷◌, length, Bool, false}
use Rattle.{std.specs.Str.bytes_eq, review_core_rules.specs.declared.rows.VoteKey.VoteKey}

-- one of these votes is that of an account on a label
abbrev pub has_vote : List VoteKey → ℕ → List ℕ → Bool
has_vote keys u l = list_any (λ k. bytes_eq k.label l && (k.account == u)) keys

-- no label and account stand twice
abbrev pub AreApart : List VoteKey → Type 0
AreApart [] = Unit {0}
AreApart (k ∷ ks) = (has_vote ks k.account k.label ≡ false) × AreApart ks

-- a test holds for just so many pairs of a label and an account
pub record AreMany (test : List ℕ → ℕ → Bool) (n : ℕ) : Type 0 where
  pub keys : List VoteKey
  pub apart : AreApart keys
  pub each : (l : List ℕ) (u : ℕ) → has_vote keys u l ≡ test l u
  pub count : length keys ≡ n
