use Rattle.std.proofs.Common.{◌≡◌, ◌++◌, take, map}
use Rattle.review_machine_rows.specs.declared.rows.Want.TheVariants as want
use Rattle.review_machine_needs.proofs.first.push_accounts.Given as goal

abbrev pub invariant-loop-number : goal.invariant-loop-number
invariant-loop-number l = l.wants.items ≡ l.initial.wants.items ++ map want.Account (take l.number-index l.numbers)
