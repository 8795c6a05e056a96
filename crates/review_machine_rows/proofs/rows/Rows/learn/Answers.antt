use Rattle.review_machine_rows.proofs.Learning.{learns_found}
use Rattle.review_machine_rows.proofs.rows.Rows.learn.Goals as goal

pub returns : goal.returns
returns c = learns_found c.args.self.now c.put.new.self c.args.want c.args.found c.requires.plain c.in_ok-put.ensures.ok
