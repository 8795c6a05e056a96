use Rattle.review_json.proofs.Texts.{and_then}
use Rattle.review_json.proofs.shown.put_reply.Goals as goal

pub returns : goal.returns
returns c = and_then c.in_ok-put.ensures c.in_ok-put_words.ensures
