use Rattle.std.proofs.Common.{◌≡◌, Some, cond, take}
use Rattle.std.specs.{List.All, Prelude.option_map}
use Rattle.review_table.specs.Rows.{rows_of, is_named, place_at, row_at, IsEmptyPlace}
use Rattle.review_table.proofs.table.Table.release.Given as goal

abbrev pub invariant-loop-edit : goal.invariant-loop-edit
invariant-loop-edit g l = record {
  same : rows_of l.self ≡ rows_of l.fn.self;
  gone : All (λ c. IsEmptyPlace g.K.Ord.cmp l.self c.key → ⊥) (take l.edit-index l.edits);
  no_more : (q : _) → IsEmptyPlace g.K.Ord.cmp l.self q → IsEmptyPlace g.K.Ord.cmp l.fn.self q;
  each : (q : _) → place_at g.K.Ord.cmp l.self q ≡ cond (is_named g.K.Ord.cmp (take l.edit-index l.edits) q) (option_map Some (row_at g.K.Ord.cmp l.fn.self q)) (place_at g.K.Ord.cmp l.fn.self q);
}
