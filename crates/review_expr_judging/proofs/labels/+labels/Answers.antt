use Rattle.review_expr_terms.proofs.Nodes.{view-And, view-Or}
use Rattle.review_expr_judging.proofs.labels.+labels.Goals as goal

pub push_labels-returns-in-And : goal.push_labels-returns-in-And
push_labels-returns-in-And t c = rw (c.in-And.is, view-And c.in-And.members) (rw c.deref-in-And.ensures.value at c.push_all.ensures)

pub push_labels-returns-in-Or : goal.push_labels-returns-in-Or
push_labels-returns-in-Or t c = rw (c.in-Or.is, view-Or c.in-Or.members) (rw c.deref-in-Or.ensures.value at c.push_all-in-Or.ensures)
