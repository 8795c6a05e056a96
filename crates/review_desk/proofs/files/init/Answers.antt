use Rattle.review_desk.proofs.files.init.Goals as goal

pub returns : goal.returns
returns g c = (c.after_closing.result, (c.create-last.result.0, c.create-last.result.1, c.create-last.ensures.made, c.close.result, c.close.ensures, c.after_closing.ensures), c.tell.ensures)
