use Rattle.review_expr.proofs.Excluded.{one_tree}
use Rattle.review_expr.proofs.laws.one_expression.Goals as goal

pub returns : goal.returns
returns g c = one_tree g.T.Spelled.reading
