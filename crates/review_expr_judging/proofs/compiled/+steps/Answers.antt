use Rattle.std.proofs.Common.{refl, arith}
use Rattle.review_expr_terms.proofs.Nodes.{view-And, view-Or}
use Rattle.review_expr_judging.{proofs.Flat.behind, specs.Postfix.AndEntry, specs.Postfix.OrEntry}
use Rattle.review_expr_judging.proofs.compiled.+steps.Goals as goal

pub push_steps-returns-in_ok-push-in-And : goal.push_steps-returns-in_ok-push-in-And
push_steps-returns-in_ok-push-in-And g t c =
    rw (c.in-And.is, view-And c.in-And.members) (behind AndEntry c.args.steps.now.items _ _ _ _ c.in-And.members.items c.in_ok-push-in-And.ensures.items refl (omega (arith, c.in-And.members.ok.0)) (rw c.deref-in-And.ensures.value at c.in_ok-push_all-in-And.ensures))

pub push_steps-returns-in_ok-push-in-Or : goal.push_steps-returns-in_ok-push-in-Or
push_steps-returns-in_ok-push-in-Or g t c =
    rw (c.in-Or.is, view-Or c.in-Or.members) (behind OrEntry c.args.steps.now.items _ _ _ _ c.in-Or.members.items c.in_ok-push-in-Or.ensures.items refl (omega (arith, c.in-Or.members.ok.0)) (rw c.deref-in-Or.ensures.value at c.in_ok-push_all-in-Or.ensures))
