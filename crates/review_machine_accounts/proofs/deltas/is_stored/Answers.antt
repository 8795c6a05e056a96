use Rattle.review_machine_accounts.proofs.Decided.{plain_refusal}
use Rattle.review_machine_accounts.proofs.deltas.is_stored.Goals as goal

pub returns-in_default : goal.returns-in_default
returns-in_default c = plain_refusal c.args.refusal.now c.in_default.not-BadFile c.in_default.not-RequirementUnsatisfied
