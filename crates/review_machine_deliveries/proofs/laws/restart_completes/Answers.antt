use Rattle.review_machine_deliveries.proofs.Restarting.{restart, restart_is_run, after_cut, after_stop, keeps_history, follow_history}
use Rattle.review_machine_deliveries.proofs.laws.restart_completes.Goals as goal

pub returns-clause-history : goal.returns-clause-history
returns-clause-history c = keeps_history

pub returns-clause-replies : goal.returns-clause-replies
returns-clause-replies c = follow_history

pub returns-clause-run : goal.returns-clause-run
returns-clause-run c = restart c.one_standing.ensures

pub returns-clause-stop : goal.returns-clause-stop
returns-clause-stop c = after_stop

pub returns-clause-whole : goal.returns-clause-whole
returns-clause-whole c = restart_is_run

pub returns-clause-cut : goal.returns-clause-cut
returns-clause-cut c = after_cut
