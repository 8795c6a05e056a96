use Rattle.std.proofs.Common.{◌∙◌, ap, sym, cond, ◌&&◌}
use Rattle.std.specs.{BTreeMap.is_at, Prelude.option_map}
use Rattle.review_table.proofs.{Empty.set_more, Places.placed_pushed}
use Rattle.review_table.specs.Rows.{row_at, place_at, placed, changed}
use Rattle.review_table.proofs.table.Table.set_all.Goals as goal

pub loop-edit-preserved : goal.loop-edit-preserved
loop-edit-preserved g c =
    let R = g.K.Ord.cmp in
    let left = c.pop.new.self.items in
    let was = c.loop-edit.self in
    let start = c.args.self.now in
    let edit = c.in-Some.edit in
    record {
      rows = λ q. ap (changed R (placed R start left) q) (c.set.ensures.rows q)
          ∙ (ap (λ b. changed R (placed R start left) q (cond (b && is_at (R edit.key) q) edit.row (row_at R was q))) (c.loop-edit.invariant.places edit.key)
          ∙ (sym (placed_pushed R start left edit q (row_at R was q))
          ∙ (ap (λ cs. changed R (placed R start cs) q (row_at R was q)) (sym c.in-Some.ensures.items) ∙ c.loop-edit.invariant.rows q)));
      places = λ q. c.set.ensures.stay q ∙ c.loop-edit.invariant.places q;
      each = λ q. ap (option_map (changed R left q)) (c.set.ensures.each q)
          ∙ (set_more R left edit q (place_at R was q)
          ∙ (ap (λ cs. option_map (changed R cs q) (place_at R was q)) (sym c.in-Some.ensures.items) ∙ c.loop-edit.invariant.each q));
    }
