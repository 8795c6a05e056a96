use Rattle.std.proofs.Common.{◌≡◌, ◌++◌, drop}
use Rattle.review_memory_rows.specs.Kept.{sent_in, AreNumbered}
use Rattle.review_memory_rows.proofs.kept.add_sent.Given as goal

abbrev pub invariant-loop-patch : goal.invariant-loop-patch
invariant-loop-patch l = record {
  items : l.sent.items ++ sent_in l.edit.change (drop l.patch-index l.edit.patches.items) ≡ l.fn.sent.items ++ sent_in l.edit.change l.edit.patches.items;
  numbered : AreNumbered l.fn.sent.items → AreNumbered l.sent.items;
}
