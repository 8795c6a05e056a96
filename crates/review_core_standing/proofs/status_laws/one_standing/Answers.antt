use Rattle.review_core_standing.proofs.Made.{one}
use Rattle.review_core_standing.proofs.status_laws.one_standing.Goals as goal

pub returns : goal.returns
returns c = one
