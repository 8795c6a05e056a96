use Rattle.review_expr_spelling.proofs.Fronts.{none_left}
use Rattle.review_expr_spelling.proofs.labels.split_label.Goals as goal

pub returns-clause-split : goal.returns-clause-split
returns-clause-split c = none_left c.loop-end.end c.args.value.now _ c.loop-end-test.false c.loop-end.invariant
