use Rattle.std.proofs.Common.{◌≡◌, take}
use Rattle.{review_table.specs.Rows.rows_of, review_machine_accounts.specs.inner.Words.added}
use Rattle.review_machine_accounts.proofs.accounts.add_members.Given as goal

abbrev pub invariant-loop-account : goal.invariant-loop-account
invariant-loop-account l = l.changes.items ≡ added l.group (rows_of l.held) (take l.account-index l.account-items)
