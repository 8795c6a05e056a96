use Rattle.std.proofs.Common.{◌≡◌, drop, map}
use Rattle.std.specs.{List.list_all, Map.Iter.deref_pair}
use Rattle.{review_core_rules.specs.Seen.of_account, review_core.specs.Tests.is_called_in_place}
use Rattle.review_core.proofs.sound.are_eligible.Given as goal

abbrev pub invariant-loop-account : goal.invariant-loop-account
invariant-loop-account l =
    list_all (is_called_in_place l.owner l.uploader (of_account l.roles)) (map deref_pair (drop l.account-index l.account-items))
    ≡ list_all (is_called_in_place l.owner l.uploader (of_account l.roles)) (map deref_pair l.account-items)
