use Rattle.std.{proofs.Common.◌≡◌, proofs.Common.◌++◌, proofs.Common.drop, specs.Prelude.flat_map}
use Rattle.review_memory_rows.specs.Kept.{placed_in, ArePlaceKeys}
use Rattle.review_memory_rows.proofs.places.placed_by.Given as goal

abbrev pub invariant-loop-edit : goal.invariant-loop-edit
invariant-loop-edit l = record {
  items : l.placed.items ++ flat_map placed_in (drop l.edit-index l.edits) ≡ flat_map placed_in l.edits;
  fit : ArePlaceKeys l.placed.items;
}
