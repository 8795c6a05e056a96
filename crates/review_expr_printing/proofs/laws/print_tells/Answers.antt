use Rattle.review_expr_printing.proofs.Again.{again}
use Rattle.review_expr_printing.proofs.laws.print_tells.Goals as goal

pub returns : goal.returns
returns g c = again g.T.Spelled.reading g.T.Written.spelling
