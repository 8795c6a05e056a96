-- Votes as the facts of a change have them.
use Rattle.std.specs.{BTreeMap.BTreeMap, BTreeMap.get, Cmp.Lexicographic.slice_cmp, List.Sorted.IsStrictlySortedBy}
use Rattle.std.specs.{Map.keys_of, Ordering.nat_cmp, Prelude.ℕ, Prelude.ℤ, Prelude.List, Prelude.Option, Prelude.Bool}
use Rattle.{review_table.specs.Rows.row_in, review_expr_judging.specs.Holds.votes_on}
use Rattle.review_core_rules.specs.{Facts.unless_zero, Listed.AreListed, Seen.Votes, Seen.vote_in, Votes.voted}
use Rattle.review_core_rules.specs.declared.rows.VoteKey.{VoteKey}

-- votes by label and account
abbrev pub VoteMap : Type 0
VoteMap = BTreeMap (List ℕ) (BTreeMap ℕ ℤ)

-- the votes on a label, each with its account
abbrev pub on_label : VoteMap → List ℕ → List (ℕ × ℤ)
on_label votes l = votes_on (get (slice_cmp nat_cmp) votes l)

-- the vote of an account on a label
abbrev pub vote_at : VoteMap → List ℕ → ℕ → Option ℤ
vote_at votes l a = row_in nat_cmp (on_label votes l) a

-- the accounts that voted on a label stand in order, each once
abbrev pub AreOrdered : VoteMap → Type 0
AreOrdered votes = (l : List ℕ) → IsStrictlySortedBy nat_cmp (keys_of (on_label votes l))

-- a row whose vote isn't 0
abbrev pub is_voted : VoteKey × ℤ → Bool
is_voted e = voted e.1

-- the votes on a patch set
abbrev pub AreVotesOf : ℕ → Votes → VoteMap → Type 0
AreVotesOf n table votes = (l : List ℕ) → AreListed nat_cmp (λ a. unless_zero (vote_in table n l a)) (on_label votes l)
