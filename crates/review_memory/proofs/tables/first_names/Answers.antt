use Rattle.std.{proofs.Common.◌∙◌, proofs.Common.cond, proofs.Common.Some, specs.BTreeMap.is_at}
use Rattle.review_table.specs.Rows.{row_in, rows_of}
use Rattle.review_memory_rows.proofs.Dropped.{none_empty}
use Rattle.review_memory.specs.{Desk.name_cmp, declared.keys.NameKey.NameKey}
use Rattle.review_memory.proofs.tables.first_names.Goals as goal

pub returns-clause-name : goal.returns-clause-name
returns-clause-name c = λ q.
    c.in_ok-put.ensures.ok q
    ∙ (λ i. let k : NameKey = record { name = c.in_ok-name.ensures i; account = c.first.ensures i } in cond (is_at (name_cmp k) q) (Some tt) (row_in name_cmp (rows_of (c.new-names.ensures i)) q))

pub returns-clause-filled : goal.returns-clause-filled
returns-clause-filled c = c.put.ensures.kept (none_empty name_cmp c.new-names.result c.new-names.ensures)
