use Rattle.review_expr_printing.proofs.CopyWords.{copy_again, copy_stands}
use Rattle.review_expr_printing.proofs.laws.copy_print_tells.Goals as goal

pub returns : goal.returns
returns c = c.print_tells.ensures copy_again copy_stands
