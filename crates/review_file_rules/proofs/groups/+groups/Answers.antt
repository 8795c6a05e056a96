use Rattle.review_expr_terms.proofs.Nodes.{view-And, view-Or}
use Rattle.review_file_rules.proofs.groups.+groups.Goals as goal

pub push_named-returns-in-And : goal.push_named-returns-in-And
push_named-returns-in-And g t c = rw (c.in-And.is, view-And c.in-And.members) (rw c.deref-in-And.ensures.value at c.push_all.ensures)

pub push_named-returns-in-Or : goal.push_named-returns-in-Or
push_named-returns-in-Or g t c = rw (c.in-Or.is, view-Or c.in-Or.members) (rw c.deref-in-Or.ensures.value at c.push_all-in-Or.ensures)
