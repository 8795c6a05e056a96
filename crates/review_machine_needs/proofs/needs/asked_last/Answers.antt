use Rattle.{review_machine_rows.specs.Steps.topic_of, review_machine_needs.proofs.Going.last_asked}
use Rattle.review_machine_needs.proofs.needs.asked_last.Goals as goal

pub returns : goal.returns
returns c = λ file caller come.
    last_asked file c.args.rows.now caller (topic_of c.args.matter) c.in_ok-wants.wants.items c.args.walked c.last_wants.new.walked come (c.in_ok-wants.ensures.wants come.1) (c.in_ok-wants.ensures.walked come.1)
