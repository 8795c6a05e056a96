use Rattle.std.proofs.Common.{◌≡◌, ◌++◌, Some, drop, map}
use Rattle.review_machine_rows.proofs.Common.{deref_pair, filter, has_role, keys_of}
use Rattle.review_machine_submits.proofs.showing.those_having.Given as goal

abbrev pub invariant-loop-account : goal.invariant-loop-account
invariant-loop-account l =
    l.accounts.items ++ keys_of (filter (λ e. has_role l.asked (Some e.1)) (map deref_pair (drop l.account-index l.rows))) ≡ keys_of (filter (λ e. has_role l.asked (Some e.1)) (map deref_pair l.rows))
