use Rattle.std.{proofs.Common.◌∙◌, proofs.Common.cond, proofs.Common.Some, specs.BTreeMap.is_at}
use Rattle.{review_table.specs.Rows.row_in, review_table.specs.Rows.rows_of, review_machine_rows.specs.Rows.member_cmp}
use Rattle.{review_machine_rows.specs.declared.rows.MemberKey.MemberKey, review_memory_rows.proofs.Dropped.none_empty}
use Rattle.review_memory.proofs.tables.first_members.Goals as goal

pub returns-clause-member : goal.returns-clause-member
returns-clause-member c = λ q.
    c.in_ok-put.ensures.ok q
    ∙ (λ i. let k : MemberKey = record { group = c.in_ok-group.ensures i; account = c.first.ensures i } in cond (is_at (member_cmp k) q) (Some tt) (row_in member_cmp (rows_of (c.new-members.ensures i)) q))

pub returns-clause-filled : goal.returns-clause-filled
returns-clause-filled c = c.put.ensures.kept (none_empty member_cmp c.new-members.result c.new-members.ensures)
