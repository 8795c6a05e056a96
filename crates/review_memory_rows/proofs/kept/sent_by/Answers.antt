use Rattle.review_memory_rows.{proofs.Turned.sent_by_more, specs.Kept.sent_by}
use Rattle.review_memory_rows.proofs.kept.sent_by.Goals as goal

pub loop-edit-preserved : goal.loop-edit-preserved
loop-edit-preserved c = record {
  items = sent_by_more c.args.edits.now c.loop-edit.edit-index c.edit-item.result c.loop-edit.sent.items c.add_sent.new.sent.items (sent_by c.args.edits.now)
      c.loop-edit-test.true c.edit-item.is c.in_ok-add_sent.ensures.items c.loop-edit.invariant.items;
  numbered = c.in_ok-add_sent.ensures.numbered c.loop-edit.invariant.numbered;
}
