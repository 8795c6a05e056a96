use Rattle.review_machine_laws.proofs.Rows.{joined_rows}
use Rattle.review_machine_laws.proofs.branch_laws.joined_is_listed.Goals as goal

pub returns : goal.returns
returns c = λ reading h project branch listed. joined_rows reading h (record { project = project; branch = branch }) listed
