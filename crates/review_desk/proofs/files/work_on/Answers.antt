use Rattle.review_desk.proofs.files.work_on.Goals as goal

pub returns : goal.returns
returns g c = (_, _, c.ends_of-ends.ensures.unwarned, (c.work-last.result.0, c.work-last.result.1, c.work-last.ensures.done, c.close.result, c.close.ensures, c.after_closing.ensures))
