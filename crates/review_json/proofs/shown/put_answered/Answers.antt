use Rattle.review_json.proofs.shown.put_answered.Goals as goal

pub returns-in-Some : goal.returns-in-Some
returns-in-Some c = rw c.in-Some.is c.put_reply.ensures

pub returns-in-None : goal.returns-in-None
returns-in-None c = rw c.in-None.is c.put_words.ensures
