use Rattle.std.proofs.Common.{◌++◌, ◌<◌, ◌∙◌, ap, subst, length, get_or}
use Rattle.review_memory_rows.{proofs.Turned.sent_more, specs.Kept.sent_in}
use Rattle.review_memory_rows.proofs.kept.add_sent.Goals as goal

pub loop-patch-preserved : goal.loop-patch-preserved
loop-patch-preserved c = record {
  items = sent_more c.args.edit.now.change c.args.edit.now.patches.items c.loop-patch.patch-index c.patch-item.result c.loop-patch.sent.items c.add_key.new.sent.items
      (c.args.sent.now.items ++ sent_in c.args.edit.now.change c.args.edit.now.patches.items)
      (subst (λ cs. c.loop-patch.patch-index < length cs) c.deref-patch-items.ensures.value c.loop-patch-test.true)
      (c.patch-item.is ∙ ap (λ cs. get_or cs c.loop-patch.patch-index c.patch-item.result) c.deref-patch-items.ensures.value) c.in_ok-add_key.ensures.items c.loop-patch.invariant.items;
  numbered = λ all. c.in_ok-add_key.ensures.numbered (c.loop-patch.invariant.numbered all);
}
