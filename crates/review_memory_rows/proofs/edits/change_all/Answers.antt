use Rattle.std.proofs.Common.{◌∙◌, ap, sym}
use Rattle.review_table.{proofs.Places.changed_pushed, specs.Rows.changed, specs.Rows.row_in, specs.Rows.rows_of}
use Rattle.review_memory_rows.proofs.edits.change_all.Goals as goal

pub loop-change-preserved : goal.loop-change-preserved
loop-change-preserved g c = λ q.
    let R = g.K.Ord.cmp in
    let left = c.pop.new.self.items in
    let was = row_in R (rows_of c.loop-change.table) q in
    ap (changed R left q) (c.in_ok-change_one.ensures q)
    ∙ (sym (changed_pushed R left c.in-Some.change q was)
    ∙ (ap (λ cs. changed R cs q was) (sym c.in-Some.ensures.items) ∙ c.loop-change.invariant q))
