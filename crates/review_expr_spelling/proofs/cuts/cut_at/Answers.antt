use Rattle.review_expr_spelling.proofs.Cutting.{cut_of}
use Rattle.review_expr_spelling.proofs.cuts.cut_at.Goals as goal

pub returns : goal.returns
returns c = cut_of c.args.mark c.args.text.now c.split_once.result c.split_once.ensures.cases c.requires
