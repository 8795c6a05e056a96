use Rattle.review_core_standing.proofs.Made.{accounts_counted}
use Rattle.review_core_standing.proofs.status_laws.label_counts_accounts.Goals as goal

pub returns : goal.returns
returns c = accounts_counted
