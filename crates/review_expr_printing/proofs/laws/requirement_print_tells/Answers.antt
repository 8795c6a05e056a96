use Rattle.review_expr_printing.proofs.RequirementWords.{requirement_again, requirement_stands}
use Rattle.review_expr_printing.proofs.laws.requirement_print_tells.Goals as goal

pub returns : goal.returns
returns c = c.print_tells.ensures requirement_again requirement_stands
