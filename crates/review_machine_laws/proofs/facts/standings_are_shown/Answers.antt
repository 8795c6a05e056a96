use Rattle.review_machine_laws.proofs.Shown.{one_standing}
use Rattle.review_machine_laws.proofs.facts.standings_are_shown.Goals as goal

pub returns : goal.returns
returns c = one_standing
