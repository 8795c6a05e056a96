use Rattle.review_desk.proofs.files.serve_file.Goals as goal

pub returns : goal.returns
returns g c = (_, _, c.ends_of-ends.ensures.unwarned, c.serve_on-job.result, c.serve_on-job.ensures, c.tell_served.ensures)
