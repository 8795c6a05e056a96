use Rattle.review_machine_laws.proofs.Joined.{joined_distinct, joined_merged, joined_one_branch, merged_joined}
use Rattle.review_machine_laws.proofs.branch_laws.joined_once.Goals as goal

pub returns : goal.returns
returns c = record { distinct = joined_distinct; merged = joined_merged; each = merged_joined; one_branch = joined_one_branch }
