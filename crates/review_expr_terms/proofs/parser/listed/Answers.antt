use Rattle.std.proofs.Common.{◌≢◌, length, arith}
use Rattle.review_expr_terms.proofs.Nodes.{all_listed, any_listed}
use Rattle.review_expr_terms.proofs.parser.listed.Goals as goal

pub returns-then-has_or : goal.returns-then-has_or
returns-then-has_or g c =
    let many : length c.args.members.items ≢ 1 = omega arith in any_listed c.args.members c.args.has_or c.if-has_or.true many

pub returns-else-has_or : goal.returns-else-has_or
returns-else-has_or g c =
    let many : length c.args.members.items ≢ 1 = omega arith in all_listed c.args.members c.args.has_or c.if-has_or.false many
