use Rattle.review_expr.proofs.OneFault.{one_fault}
use Rattle.review_expr.proofs.laws.one_fault.Goals as goal

pub returns : goal.returns
returns g c = one_fault g.T.Spelled.reading g.T.Spelled.is_deep
