use Rattle.std.specs.Prelude.{flat_map}
use Rattle.review_memory_rows.{proofs.Turned.flat_more, specs.Kept.placed_in}
use Rattle.review_memory_rows.proofs.places.placed_by.Goals as goal

pub loop-edit-preserved : goal.loop-edit-preserved
loop-edit-preserved c = record {
  items = flat_more placed_in c.args.edits.now c.loop-edit.edit-index c.edit-item.result c.loop-edit.placed.items c.add_place.new.placed.items (flat_map placed_in c.args.edits.now)
      c.loop-edit-test.true c.edit-item.is c.in_ok-add_place.ensures.items c.loop-edit.invariant.items;
  fit = c.in_ok-add_place.ensures.fit c.loop-edit.invariant.fit;
}
