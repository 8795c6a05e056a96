use Rattle.std.{proofs.Common.ap, proofs.Common.sym, proofs.Common.◌∙◌, specs.Ordering.nat_cmp}
use Rattle.review_table.specs.Rows.{row_in, rows_of}
use Rattle.review_memory_rows.{proofs.Joined.not_kept, specs.Kept.KeptView}
use Rattle.review_memory_rows.proofs.kept.KeptChanges.joined_at.Goals as goal

pub returns-in_default : goal.returns-in_default
returns-in_default c =
    not_kept (rows_of c.args.self.now.kept) c.args.branch.now c.args.key.now (ap (λ (v : KeptView). row_in nat_cmp (rows_of v.kept) c.args.key.now.change) (sym c.self.view_is) ∙ sym c.in_default.ensures)
