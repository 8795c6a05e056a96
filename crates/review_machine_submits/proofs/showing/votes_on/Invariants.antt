use Rattle.std.proofs.Common.{◌≡◌, ◌++◌, drop, map}
use Rattle.std.specs.{List.filter, Map.Iter.deref_pair}
use Rattle.{review_core_rules.specs.Shown.shown_vote, review_machine_submits.specs.inner.Told.is_on}
use Rattle.review_machine_submits.proofs.showing.votes_on.Given as goal

abbrev pub invariant-loop-key : goal.invariant-loop-key
invariant-loop-key l = l.shown.items ++ map shown_vote (filter (is_on l.patch) (map deref_pair (drop l.key-index l.rows))) ≡ map shown_vote (filter (is_on l.patch) (map deref_pair l.rows))
