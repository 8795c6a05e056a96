use Rattle.std.proofs.Common.{◌≡◌, Some, cond, take}
use Rattle.review_table.specs.Rows.{is_named, place_at, row_at, rows_of, HasPlace, HavePlaces}
use Rattle.review_table.proofs.table.Table.reserve_all.Given as goal

abbrev pub invariant-loop-edit : goal.invariant-loop-edit
invariant-loop-edit g l = record {
  same : rows_of l.self ≡ rows_of l.fn.self;
  rows : (q : _) → row_at g.K.Ord.cmp l.self q ≡ row_at g.K.Ord.cmp l.fn.self q;
  stay : (q : _) → HasPlace g.K.Ord.cmp l.fn.self q → HasPlace g.K.Ord.cmp l.self q;
  places : HavePlaces g.K.Ord.cmp l.self (take l.edit-index l.edits);
  each : (q : _) → place_at g.K.Ord.cmp l.self q ≡ cond (is_named g.K.Ord.cmp (take l.edit-index l.edits) q) (Some (row_at g.K.Ord.cmp l.fn.self q)) (place_at g.K.Ord.cmp l.fn.self q);
}
