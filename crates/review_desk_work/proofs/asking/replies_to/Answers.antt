use Rattle.review_desk_work.proofs.Replies.{all_asked}
use Rattle.review_desk_work.proofs.asking.replies_to.Goals as goal

pub returns-in-Ok : goal.returns-in-Ok
returns-in-Ok g c = all_asked _ _ _ _ c.in-Ok.ensures.ran
