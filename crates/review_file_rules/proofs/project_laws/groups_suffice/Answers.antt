use Rattle.review_file_rules.proofs.Trees.{vote_alike, change_alike}
use Rattle.review_file_rules.proofs.project_laws.groups_suffice.Goals as goal

pub returns-clause-vote : goal.returns-clause-vote
returns-clause-vote c = vote_alike

pub returns-clause-change : goal.returns-clause-change
returns-clause-change c = change_alike
