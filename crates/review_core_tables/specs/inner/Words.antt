-- Words that only proofs and private clauses use.
use Rattle.std.specs.List.{list_any}
use Rattle.std.specs.Prelude.{ℕ, List, Bool, ◌==◌, ◌&&◌, Option, Some, None, ℤ, if◌then◌else◌}
use Rattle.{std.specs.Str.bytes_eq, review_words.specs.declared.changes.Given.Given}
use Rattle.review_core_rules.specs.Change.{given_or, kept_or}
use Rattle.review_core_rules.specs.declared.rows.{AttentionEntry.AttentionEntry, VoteKey.VoteKey, Why.Why}

-- whether a key is that of this vote
abbrev pub is_vote : VoteKey → ℕ → List ℕ → ℕ → Bool
is_vote k n l a = (k.patch == n) && (bytes_eq k.label l && (k.account == a))

-- whether a vote of a key is one of an account on a patch set
abbrev pub is_of : ℕ → ℕ → VoteKey → Bool
is_of n a k = (n == k.patch) && (a == k.account)

-- the first of two rows that is there
abbrev pub or_else : {X : Type 0} → Option X → Option X → Option X
or_else None other = other
or_else (Some x) other = Some x

-- a vote after those that an account gives on a patch set, where it was this before
abbrev pub given_at : ℕ → ℕ → List Given → ℕ → List ℕ → ℕ → ℤ → ℤ
given_at patch account gs n l a before = if (patch == n) && (account == a) then given_or gs l before else before

-- why an account is in after those of some accounts are called that a rule calls
abbrev pub called_among : List ℕ → Option Why → ℕ → ℕ → Option AttentionEntry → Option AttentionEntry
called_among accounts why request u before = if list_any (λ x. x == u) accounts then kept_or before why request else before
