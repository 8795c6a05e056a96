use Rattle.review_expr.proofs.Excluded.{bad_value}
use Rattle.review_expr.proofs.laws.never_both.Goals as goal

pub returns : goal.returns
returns g c = bad_value g.T.Spelled.reading g.T.Spelled.is_deep
