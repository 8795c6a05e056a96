use Rattle.review_expr_terms.proofs.Nodes.{view-And, view-Or}
use Rattle.review_expr_judging.proofs.judge.+eval.Goals as goal

pub eval-returns-in-And : goal.eval-returns-in-And
eval-returns-in-And g t c = rw (c.in-And.is, view-And c.in-And.members) (rw c.deref-in-And.ensures.value at c.all_hold.ensures)

pub eval-returns-in-Or : goal.eval-returns-in-Or
eval-returns-in-Or g t c = rw (c.in-Or.is, view-Or c.in-Or.members) (rw c.deref-in-Or.ensures.value at c.any_holds.ensures)
