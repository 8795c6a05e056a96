use Rattle.review_machine_rows.proofs.Learning.{learns_group}
use Rattle.review_machine_rows.proofs.rows.Rows.learn_group.Goals as goal

pub returns : goal.returns
returns c = learns_group c.args.self.now c.put.new.self c.args.group c.args.members c.in_ok-put.ensures.ok
