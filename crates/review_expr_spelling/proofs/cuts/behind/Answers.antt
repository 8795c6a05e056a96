use Rattle.review_expr_spelling.proofs.Cutting.{stripped}
use Rattle.review_expr_spelling.proofs.cuts.behind.Goals as goal

pub returns : goal.returns
returns c = stripped c.args.front.now c.args.text.now c.strip_prefix.result c.strip_prefix.ensures.cases
