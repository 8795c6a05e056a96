use Rattle.std.proofs.Common.{◌≡◌, ◌++◌, drop}
use Rattle.review_memory_rows.specs.Kept.{sent_by, AreNumbered}
use Rattle.review_memory_rows.proofs.kept.sent_by.Given as goal

abbrev pub invariant-loop-edit : goal.invariant-loop-edit
invariant-loop-edit l = record {
  items : l.sent.items ++ sent_by (drop l.edit-index l.edits) ≡ sent_by l.edits;
  numbered : AreNumbered l.sent.items;
}
