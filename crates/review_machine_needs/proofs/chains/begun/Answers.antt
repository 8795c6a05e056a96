use Rattle.review_machine_needs.proofs.Going.{walk_alone}
use Rattle.review_machine_needs.proofs.chains.begun.Goals as goal

pub returns-in-None : goal.returns-in-None
returns-in-None c = λ b h. walk_alone b c.args.change c.new.result c.new.ensures
