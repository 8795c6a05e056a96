use Rattle.review_json.proofs.Texts.{and_then}
use Rattle.review_json.proofs.shown.put_members.Goals as goal

pub returns : goal.returns
returns c = and_then c.in_ok-put.ensures (and_then c.in_ok-put-2.ensures (and_then c.in_ok-put-3.ensures (and_then c.in_ok-put-4.ensures (and_then c.in_ok-put-5.ensures (and_then c.in_ok-put-6.ensures (and_then c.in_ok-put-7.ensures c.in_ok-put_last_members.ensures))))))
