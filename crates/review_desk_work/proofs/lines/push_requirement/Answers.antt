use Rattle.review_desk_work.specs.Told.{requirement_line}
use Rattle.review_desk_work.proofs.lines.push_requirement.Goals as goal

pub returns : goal.returns
unfolding requirement_line
returns c = rw (← c.as_str.ensures.text, ← c.name-status.ensures) c.push_three.ensures
