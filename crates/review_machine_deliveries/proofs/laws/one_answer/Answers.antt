use Rattle.review_machine_deliveries.proofs.Outcomes.{one_answer}
use Rattle.review_machine_deliveries.proofs.laws.one_answer.Goals as goal

pub returns : goal.returns
returns c = one_answer c.one_standing.ensures
