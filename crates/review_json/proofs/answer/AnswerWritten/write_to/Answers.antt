use Rattle.review_json.proofs.answer.AnswerWritten.write_to.Goals as goal

pub returns-in-Shown : goal.returns-in-Shown
returns-in-Shown c = rw c.in-Shown.is c.write_to.ensures
