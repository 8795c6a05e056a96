use Rattle.review_expr.proofs.Within.{place_within}
use Rattle.review_expr.proofs.laws.place_within.Goals as goal

pub returns : goal.returns
returns g c = place_within g.T.Spelled.reading g.T.Spelled.is_deep
