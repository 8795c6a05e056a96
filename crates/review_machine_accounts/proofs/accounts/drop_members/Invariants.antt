use Rattle.std.proofs.Common.{◌≡◌, ◌++◌, take, map}
use Rattle.{std.specs.Map.Iter.deref_pair, review_machine_accounts.specs.inner.Words.dropped}
use Rattle.review_machine_accounts.proofs.accounts.drop_members.Given as goal

abbrev pub invariant-loop-account : goal.invariant-loop-account
invariant-loop-account l = l.changes.items ≡ l.initial.changes.items ++ dropped l.group (map deref_pair (take l.account-index l.held)) l.members
