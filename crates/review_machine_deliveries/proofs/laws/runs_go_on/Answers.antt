use Rattle.review_machine_deliveries.proofs.Ran.{run_is_session, runs_go_on}
use Rattle.review_machine_deliveries.proofs.laws.runs_go_on.Goals as goal

pub returns-clause-first : goal.returns-clause-first
returns-clause-first g c = run_is_session g.S.Shelf.state

pub returns-clause-next : goal.returns-clause-next
returns-clause-next g c = runs_go_on g.S.Shelf.state
