use Rattle.review_expr_printing.proofs.LabelValues.{label_values}
use Rattle.review_expr_printing.proofs.label_laws.label_values.Goals as goal

pub returns : goal.returns
returns c = label_values
