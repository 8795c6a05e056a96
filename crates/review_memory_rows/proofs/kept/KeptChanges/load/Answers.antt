use Rattle.std.{proofs.Common.sym, proofs.Common.◌∙◌, proofs.Common.ap, specs.Ordering.nat_cmp}
use Rattle.review_table.specs.Rows.{row_in, rows_of}
use Rattle.review_machine_change_rows.proofs.Shown.{passed}
use Rattle.review_memory_rows.{proofs.Turned.has_none, proofs.Turned.unread, specs.Kept.IsUnread, specs.Kept.KeptView}
use Rattle.review_memory_rows.proofs.kept.KeptChanges.load.Goals as goal

pub returns-in_err-copied_change-in-Some-clause-fault : goal.returns-in_err-copied_change-in-Some-clause-fault
returns-in_err-copied_change-in-Some-clause-fault c =
    passed (IsUnread (rows_of c.args.self.now.kept) c.args.number) c.in_err-copied_change-in-Some.field-0.0 c.from_residual.result c.from_residual.ensures
    (unread (rows_of c.args.self.now.kept) c.args.number c.in-Some.tables.now c.in_err-copied_change-in-Some.field-0.0 (ap (λ (v : KeptView). row_in nat_cmp (rows_of v.kept) c.args.number) (sym c.self.view_is) ∙ sym c.in-Some.ensures) c.in_err-copied_change-in-Some.ensures.fault)

pub returns-in-None-clause-found : goal.returns-in-None-clause-found
returns-in-None-clause-found c = has_none (rows_of c.args.self.now.kept) c.args.number (ap (λ (v : KeptView). row_in nat_cmp (rows_of v.kept) c.args.number) (sym c.self.view_is) ∙ sym c.in-None.ensures)
