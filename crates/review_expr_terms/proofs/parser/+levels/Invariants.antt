use Rattle.std.proofs.Common.{◌+◌, ◌*◌}
use Rattle.review_expr_terms.proofs.parser.+levels.Given as goal

abbrev pub decreases-members : goal.decreases-members
decreases-members g l = 2 * l.fuel

abbrev pub decreases-primary : goal.decreases-primary
decreases-primary g l = 2 * l.fuel + 1

abbrev pub decreases-unary : goal.decreases-unary
decreases-unary g l = 2 * l.fuel
