use Rattle.review_machine_laws.proofs.Rows.{last_joined_is}
use Rattle.review_machine_laws.proofs.branch_laws.last_is_length.Goals as goal

pub returns : goal.returns
returns c = λ reading h project branch last. last_joined_is reading h (record { project = project; branch = branch }) last
