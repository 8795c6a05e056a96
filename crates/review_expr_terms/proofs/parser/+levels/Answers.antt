use Rattle.std.proofs.Common.{◌-◌, ap, ◌∙◌, sym, option_map, Some}
use Rattle.std.proofs.lemmas.Result.{err_from_is_err_and}
use Rattle.review_expr_terms.proofs.Steps.{unary_zero, members_zero, at_not, at_minus, at_none, at_last, at_next, at_failing, fails_map, negated_read}
use Rattle.review_expr_terms.specs.{Reading.members, Views.toks, Views.Sums}
use Rattle.review_expr_terms.specs.inner.Views.{seen, seen_all, with_join, run_view, join}
use Rattle.review_expr_terms.proofs.parser.+levels.Goals as goal

pub unary-returns-then-fuel-eq0 : goal.unary-returns-then-fuel-eq0
unary-returns-then-fuel-eq0 g t c = ap (option_map seen) (unary_zero _ _ c.if-fuel-eq0.true)

pub unary-returns-in_err-part-in-Not : goal.unary-returns-in_err-part-in-Not
unary-returns-in_err-part-in-Not g t c =
    let p = err_from_is_err_and c.from_residual.result c.from_residual.ensures.1 in
    rw (p.1, p.2, at_not c.args.fuel _ _ c.if-fuel-eq0.false c.in-Not.ensures) (fails_map negated_read _ _ c.in_err-part-in-Not.ensures)

pub unary-returns-in_ok-negated-in-Not : goal.unary-returns-in_ok-negated-in-Not
unary-returns-in_ok-negated-in-Not g t c =
    at_not c.args.fuel _ _ c.if-fuel-eq0.false c.in-Not.ensures ∙ ap (option_map negated_read) c.in_ok-part-in-Not.ensures
    ∙ ap (λ p. Some (p, toks c.unary.new.tokens.items)) (sym (c.in_ok-negated-in-Not.ensures))

pub unary-returns-in_err-member-in-Minus : goal.unary-returns-in_err-member-in-Minus
unary-returns-in_err-member-in-Minus g t c =
    let p = err_from_is_err_and c.from_residual-in_err-member-in-Minus.result c.from_residual-in_err-member-in-Minus.ensures.1 in
    rw (p.1, p.2, at_minus c.args.fuel _ _ c.if-fuel-eq0.false c.in-Minus.ensures) (fails_map negated_read _ _ c.in_err-member-in-Minus.ensures)

pub unary-returns-in_ok-negated-in-Minus : goal.unary-returns-in_ok-negated-in-Minus
unary-returns-in_ok-negated-in-Minus g t c =
    at_minus c.args.fuel _ _ c.if-fuel-eq0.false c.in-Minus.ensures ∙ ap (option_map negated_read) c.in_ok-member-in-Minus.ensures
    ∙ ap (λ p. Some (p, toks c.primary.new.tokens.items)) (sym (c.in_ok-negated-in-Minus.ensures))

pub unary-returns-in_ok-part-in-None : goal.unary-returns-in_ok-part-in-None
unary-returns-in_ok-part-in-None g t c =
    at_none c.args.fuel _ _ c.if-fuel-eq0.false c.in-None.ensures ∙ c.in_ok-part-in-None.ensures

pub unary-returns-in_err-part-in-None : goal.unary-returns-in_err-part-in-None
unary-returns-in_err-part-in-None g t c =
    let p = err_from_is_err_and c.from_residual-in_err-part-in-None.result c.from_residual-in_err-part-in-None.ensures.1 in
    rw (p.1, p.2, at_none c.args.fuel _ _ c.if-fuel-eq0.false c.in-None.ensures) c.in_err-part-in-None.ensures

pub members-returns-then-fuel-eq0 : goal.members-returns-then-fuel-eq0
members-returns-then-fuel-eq0 g t c = ap (option_map (seen_all (run_view c.args.run))) (members_zero _ _ c.if-fuel-eq0.true)

pub members-returns-in_err-part : goal.members-returns-in_err-part
members-returns-in_err-part g t c =
    let p = err_from_is_err_and c.from_residual.result c.from_residual.ensures.1 in
    rw (p.1, p.2) (at_failing c.args.fuel _ _ _ c.if-fuel-eq0.false c.in_err-part.ensures)

pub members-returns-in-None : goal.members-returns-in-None
members-returns-in-None g t c =
    at_last c.args.fuel _ _ _ _ _ c.if-fuel-eq0.false c.in_ok-part.ensures c.in-None.ensures
    ∙ ap (λ s. Some (s, toks c.take_joint.new.tokens.items)) (sym c.in_ok-run.ensures)

pub members-returns-in_ok-run-in-Some : goal.members-returns-in_ok-run-in-Some
members-returns-in_ok-run-in-Some g t c =
    at_next c.args.fuel _ _ _ _ _ _ c.if-fuel-eq0.false c.in_ok-part.ensures c.in-Some.ensures
    ∙ ap (λ (s : Sums g.row.W.Denot). option_map (seen_all s) (members (c.args.fuel - 1) (toks c.take_joint.new.tokens.items)))
    (sym (c.joined.ensures ∙ ap (λ (s : Sums g.row.W.Denot). with_join s (join c.in-Some.joint)) c.in_ok-run.ensures))
    ∙ c.in_ok-run-in-Some.ensures

pub members-returns-in_err-run-in-Some : goal.members-returns-in_err-run-in-Some
members-returns-in_err-run-in-Some g t c =
    let p = err_from_is_err_and c.from_residual-in_err-run-in-Some.result c.from_residual-in_err-run-in-Some.ensures.1 in
    let sums = c.joined.ensures ∙ ap (λ (s : Sums g.row.W.Denot). with_join s (join c.in-Some.joint)) c.in_ok-run.ensures in
    rw (p.1, p.2, at_next c.args.fuel _ _ _ _ _ _ c.if-fuel-eq0.false c.in_ok-part.ensures c.in-Some.ensures, ← sums) c.in_err-run-in-Some.ensures
