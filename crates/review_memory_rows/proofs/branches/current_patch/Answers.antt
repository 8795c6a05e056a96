use Rattle.{std.specs.Option.option_copied, review_table.specs.Rows.rows_of, review_memory_rows.proofs.Sent.current_of}
use Rattle.review_memory_rows.proofs.branches.current_patch.Goals as goal

pub returns-in-Some : goal.returns-in-Some
returns-in-Some c = current_of (rows_of c.args.tables.now.patches) c.in-Some.number.now (option_copied c.get.result) c.get.ensures c.in-Some.ensures.there c.in-Some.ensures.above
