use Rattle.std.{proofs.Common.rules, specs.Prelude.option_copied}
use Rattle.{review_machine_rows.specs.Steps.topic_of, review_machine_needs.proofs.Going.above_asked}
use Rattle.review_machine_needs.proofs.needs.asked_above.Goals as goal

pub returns : goal.returns
returns c = λ come. above_asked (option_copied c.args.effective) c.args.rows.now c.args.caller (topic_of c.args.matter) c.in_ok-wants.wants.items come c.in_ok-wants.ensures (search rules)
