use Rattle.review_machine_laws.proofs.Parents.{entry_is_new, entry_accepted, entry_may_join}
use Rattle.review_machine_laws.proofs.branch_laws.accepted_submit.Goals as goal

pub returns : goal.returns
returns c = record { accepted = entry_accepted; each = entry_may_join; new = entry_is_new }
