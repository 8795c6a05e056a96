use Rattle.std.proofs.{Common.◌∙◌, Common.ap, Common.sym, Common.subst, lemmas.Map.Keys.IsDistinct-from_sorted}
use Rattle.std.specs.{List.IsDistinct, Map.keys_of, Ordering.eq_by_cmp}
use Rattle.review_table.specs.Rows.{row_in}
use Rattle.review_machine_change_rows.proofs.copies.copied_table.Goals as goal

pub unreachable-requires : goal.unreachable-requires
unreachable-requires g c =
    let distinct = IsDistinct-from_sorted g.K.Ord.cmp _ c.in_ok-copies.ensures.sorted in
    c.in-Err-Double.ensures.double c.in-Err-Double.field-0-is (subst (λ rows. IsDistinct (eq_by_cmp g.K.Ord.cmp) (keys_of rows)) (sym c.in_ok-copies.ensures.rows) distinct)

pub returns-in-Ok : goal.returns-in-Ok
returns-in-Ok g c = λ q. c.in-Ok.ensures.ok.1 q ∙ ap (λ rows. row_in g.K.Ord.cmp rows q) c.in_ok-copies.ensures.rows
