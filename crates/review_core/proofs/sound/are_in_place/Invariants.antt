use Rattle.std.{proofs.Common.◌≡◌, proofs.Common.drop, proofs.Common.map, specs.List.list_all}
use Rattle.{std.specs.Map.Iter.deref_pair, review_core_rules.specs.Seen.of_account, review_core.specs.Tests.is_in_place}
use Rattle.review_core.proofs.sound.are_in_place.Given as goal

abbrev pub invariant-loop-key : goal.invariant-loop-key
invariant-loop-key l =
    list_all (is_in_place l.current (of_account l.roles)) (map deref_pair (drop l.key-index l.key-items)) ≡ list_all (is_in_place l.current (of_account l.roles)) (map deref_pair l.key-items)
