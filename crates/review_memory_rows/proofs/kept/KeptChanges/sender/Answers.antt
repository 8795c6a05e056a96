use Rattle.{std.proofs.Common.false, std.proofs.Common.subst, review_table.specs.Rows.rows_of}
use Rattle.review_memory_rows.{proofs.Sent.no_sender, specs.Kept.IsFoundSent}
use Rattle.review_memory_rows.proofs.kept.KeptChanges.sender.Goals as goal

pub returns-in-None : goal.returns-in-None
returns-in-None c =
    let kept = rows_of c.args.self.now.kept in
    no_sender kept c.args.base.now (subst (IsFoundSent false kept c.args.base.now) c.in-None.is c.in_ok-change.ensures)
