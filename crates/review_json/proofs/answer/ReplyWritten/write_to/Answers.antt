use Rattle.review_json.proofs.answer.ReplyWritten.write_to.Goals as goal

pub returns-in-IdentityReused : goal.returns-in-IdentityReused
returns-in-IdentityReused c = rw c.in-IdentityReused.is c.write_text_alone.ensures

pub returns-in-EpochClosed : goal.returns-in-EpochClosed
returns-in-EpochClosed c = rw c.in-EpochClosed.is c.write_text_alone-in-EpochClosed.ensures
