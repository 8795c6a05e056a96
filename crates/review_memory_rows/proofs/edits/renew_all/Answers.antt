use Rattle.std.proofs.Common.{◌≡◌, ◌∙◌, ◌++◌, ◌∷◌, [], ap, nat_cmp, subst, sym}
use Rattle.{review_table.specs.Rows.row_in, review_table.specs.Rows.rows_of, review_memory_rows.specs.Kept.renewed_at}
use Rattle.review_memory_rows.proofs.edits.renew_all.Goals as goal

pub loop-change-preserved : goal.loop-change-preserved
loop-change-preserved c = record {
  rows = λ n.
      let was = row_in nat_cmp (rows_of c.loop-change.kept) n in
      subst (λ cs. renewed_at cs n (row_in nat_cmp (rows_of c.renew.new.kept) n) ≡ renewed_at (cs ++ c.in-Some.change ∷ []) n was) c.deref.ensures.value (c.renew.ensures.rows n)
      ∙ ap (λ cs. renewed_at cs n was) (sym c.in-Some.ensures.items) ∙ c.loop-change.invariant.rows n;
  full = λ full. c.renew.ensures.full (c.loop-change.invariant.full full);
}
