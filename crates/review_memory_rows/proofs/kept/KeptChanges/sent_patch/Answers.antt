use Rattle.{review_table.specs.Rows.rows_of, review_memory_rows.proofs.Sent.sent_patch_by}
use Rattle.review_memory_rows.proofs.kept.KeptChanges.sent_patch.Goals as goal

pub returns : goal.returns
returns c = sent_patch_by (rows_of c.args.self.now.kept) c.args.base.now c.find_sent.result c.find_sent.ensures
