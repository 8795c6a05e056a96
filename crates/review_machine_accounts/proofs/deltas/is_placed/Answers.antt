use Rattle.review_machine_accounts.proofs.Decided.{plain_fault}
use Rattle.review_machine_accounts.proofs.deltas.is_placed.Goals as goal

pub returns-in_default : goal.returns-in_default
returns-in_default c = plain_fault c.args.fault.now c.in_default.not-Expr
