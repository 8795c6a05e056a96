use Rattle.review_machine_laws.proofs.Joined as joining
use Rattle.review_machine_laws.proofs.branch_laws.joined_few.Goals as goal

pub returns : goal.returns
returns c = joining.joined_few
