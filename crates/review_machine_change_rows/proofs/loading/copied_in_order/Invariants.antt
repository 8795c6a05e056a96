use Rattle.std.{proofs.Common.◌≡◌, proofs.Common.◌++◌, proofs.Common.map, specs.Map.Iter.deref_pair}
use Rattle.{review_table.specs.Rows.rows_of, review_machine_change_rows.specs.inner.Words.numbered}
use Rattle.review_machine_change_rows.proofs.loading.copied_in_order.Given as goal

-- the rows so far and those that are left are all
abbrev pub invariant-loop-number : goal.invariant-loop-number
invariant-loop-number g l = numbered 0 l.rows.items ++ map deref_pair l.number-iterator.rest.items ≡ rows_of l.table
