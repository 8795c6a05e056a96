use Rattle.std.proofs.Common.{◌≡◌, ℕ, List, None, drop, map}
use Rattle.{std.specs.List.filter, std.specs.Map.Iter.deref_pair, review_core_rules.specs.Seen.vote_cmp}
use Rattle.review_core_tables.{proofs.Copied.vote_key, specs.Tables.put_in}
use Rattle.review_core_standing.specs.inner.Made.{AreOrdered, is_voted, vote_at}
use Rattle.review_core_standing.proofs.facts.votes_of.Given as goal

abbrev pub invariant-loop-key : goal.invariant-loop-key
invariant-loop-key l = record {
  votes : (name : List ℕ) (a : ℕ) → put_in vote_cmp (filter is_voted (map deref_pair (drop l.key-index l.rows))) (vote_key l.current name a) (vote_at l.votes name a) ≡ put_in vote_cmp (filter is_voted (map deref_pair l.rows)) (vote_key l.current name a) None;
  ordered : AreOrdered l.votes;
}
