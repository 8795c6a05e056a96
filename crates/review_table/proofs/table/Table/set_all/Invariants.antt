use Rattle.std.{proofs.Common.◌≡◌, proofs.Common.vec_len, specs.Prelude.option_map}
use Rattle.review_table.specs.Rows.{row_at, has_place, place_at, placed, changed}
use Rattle.review_table.proofs.table.Table.set_all.Given as goal

abbrev pub invariant-loop-edit : goal.invariant-loop-edit
invariant-loop-edit g l = record {
  rows : (q : _) → changed g.K.Ord.cmp (placed g.K.Ord.cmp l.fn.self l.left.items) q (row_at g.K.Ord.cmp l.self q) ≡ changed g.K.Ord.cmp (placed g.K.Ord.cmp l.fn.self l.fn.edits.items) q (row_at g.K.Ord.cmp l.fn.self q);
  places : (q : _) → has_place g.K.Ord.cmp l.self q ≡ has_place g.K.Ord.cmp l.fn.self q;
  each : (q : _) → option_map (changed g.K.Ord.cmp l.left.items q) (place_at g.K.Ord.cmp l.self q) ≡ option_map (changed g.K.Ord.cmp l.fn.edits.items q) (place_at g.K.Ord.cmp l.fn.self q);
}

abbrev pub decreases-loop-edit : goal.decreases-loop-edit
decreases-loop-edit g l = vec_len l.left
