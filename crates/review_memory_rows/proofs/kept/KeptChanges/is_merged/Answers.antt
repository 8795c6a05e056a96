use Rattle.{review_table.specs.Rows.rows_of, review_memory_rows.proofs.Sent.merged_or_not}
use Rattle.review_memory_rows.proofs.kept.KeptChanges.is_merged.Goals as goal

pub returns : goal.returns
returns c = merged_or_not (rows_of c.args.self.now.kept) c.args.base.now c.in_ok-merged.merged c.is_some.result c.is_some.ensures c.in_ok-merged.ensures
