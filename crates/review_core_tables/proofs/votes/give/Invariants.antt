use Rattle.std.proofs.Common.{◌≡◌, ℕ, List, drop}
use Rattle.{review_core_rules.specs.EditedRows.edited_vote, review_core_tables.specs.inner.Words.given_at}
use Rattle.review_core_tables.proofs.votes.give.Given as goal

abbrev pub invariant-loop-given : goal.invariant-loop-given
invariant-loop-given l = record {
  table : l.votes.rows ≡ l.fn.votes.rows;
  votes : (n : ℕ) (name : List ℕ) (a : ℕ) → given_at l.patch l.account (drop l.given-index l.labels) n name a (edited_vote l.votes n name a) ≡ given_at l.patch l.account l.labels n name a (edited_vote l.fn.votes n name a);
}
