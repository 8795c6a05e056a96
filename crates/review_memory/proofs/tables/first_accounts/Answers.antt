use Rattle.std.{proofs.Common.◌∙◌, proofs.Common.cond, proofs.Common.Some, specs.BTreeMap.is_at, specs.Ordering.nat_cmp}
use Rattle.review_table.specs.Rows.{row_in, rows_of}
use Rattle.review_memory_rows.proofs.Dropped.{none_empty}
use Rattle.review_memory.proofs.tables.first_accounts.Goals as goal

pub returns-clause-account : goal.returns-clause-account
returns-clause-account c = λ q.
    c.in_ok-put.ensures.ok q ∙ (λ i. cond (is_at (nat_cmp (c.first.ensures i)) q) (Some (c.in_ok-name.ensures i)) (row_in nat_cmp (rows_of (c.new-accounts.ensures i)) q))

pub returns-clause-filled : goal.returns-clause-filled
returns-clause-filled c = c.put.ensures.kept (none_empty nat_cmp c.new-accounts.result c.new-accounts.ensures)
