use Rattle.review_json.proofs.Texts.{and_then}
use Rattle.review_json.proofs.shown.ShownAttentionEntryWritten.write_to.Goals as goal

pub returns : goal.returns
returns c = and_then c.in_ok-begin_object.ensures (and_then c.in_ok-put.ensures (and_then c.in_ok-put-2.ensures (and_then c.in_ok-put-3.ensures c.in_ok-end_object.ensures)))
