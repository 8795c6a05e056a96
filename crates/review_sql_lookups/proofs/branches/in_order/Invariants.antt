use Rattle.std.proofs.Common.{◌≡◌, ◌++◌}
use Rattle.{review_table.specs.Rows.rows_of, review_machine_change_rows.specs.inner.Words.numbered}
use Rattle.review_sql_lookups.proofs.branches.in_order.Given as goal

-- the commits so far and those that are left are all
abbrev pub invariant-loop-place : goal.invariant-loop-place
invariant-loop-place l = numbered 0 l.bases.items ++ l.place-iterator.rest.items ≡ rows_of l.fn.places
