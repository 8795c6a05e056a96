use Rattle.{std.proofs.Common.◌≡◌, review_expr_spelling.specs.Labels.longest_label}
use Rattle.review_expr_spelling.proofs.labels.split_label.Given as goal

abbrev pub invariant-loop-end : goal.invariant-loop-end
invariant-loop-end l = longest_label l.end l.value ≡ longest_label 40 l.value

abbrev pub decreases-loop-end : goal.decreases-loop-end
decreases-loop-end l = l.end
