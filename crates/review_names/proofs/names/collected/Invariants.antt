use Rattle.std.proofs.Common.{◌≡◌, ℕ, List, ◌++◌}
use Rattle.{std.specs.Vec.vec_len, review_names.specs.Names.set_of}
use Rattle.review_names.proofs.names.collected.Given as goal

-- the set is that of the accounts that are taken off the end
abbrev pub invariant-loop-account : goal.invariant-loop-account
invariant-loop-account l = (taken : List ℕ) × (l.rest.items ++ taken ≡ l.fn.accounts.items) × (l.set.keys ≡ set_of taken)

abbrev pub decreases-loop-account : goal.decreases-loop-account
decreases-loop-account l = vec_len l.rest
