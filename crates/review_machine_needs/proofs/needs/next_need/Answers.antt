use Rattle.std.{proofs.Common.rules, specs.Prelude.option_copied}
use Rattle.review_machine_rows.specs.Steps.{next, topic_of}
use Rattle.review_machine_needs.proofs.Going.{some_asked}
use Rattle.review_machine_needs.proofs.needs.next_need.Goals as goal

pub returns-clause-need : goal.returns-clause-need
returns-clause-need c = λ come.
    some_asked c.in_ok-asked.asked.wants.items (next (option_copied c.args.effective) c.args.rows.now c.args.caller (topic_of c.args.matter)) (c.in_ok-asked.ensures come).0 (search rules)
