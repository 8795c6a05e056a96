use Rattle.std.proofs.{Common.rules, Common.◌≡◌, lemmas.Result.err_from_is_err_and}
use Rattle.review_expr_terms.proofs.Refused.{both_read, lawful_alone, lawful_whole}
use Rattle.review_expr_terms.specs.Patterns.{anchored}
use Rattle.review_expr_terms.proofs.pattern.Pattern.read.Goals as goal

pub returns-in_err-alone_taken-clause-fault : goal.returns-in_err-alone_taken-clause-fault
returns-in_err-alone_taken-clause-fault c =
    let p = err_from_is_err_and c.from_residual.result c.from_residual.ensures.1 in
    rw (p.1, p.2) (lawful_alone c.args.text.now _ c.in_err-alone_taken.ensures.not_engine c.in_err-alone_taken.ensures.refused)

pub returns-in_err-whole-clause-fault : goal.returns-in_err-whole-clause-fault
returns-in_err-whole-clause-fault c =
    let p = err_from_is_err_and c.from_residual-in_err-whole.result c.from_residual-in_err-whole.ensures.1 in
    let source : c.as_str.result.now ≡ anchored c.args.text.now = search rules in
    rw (p.1, p.2) (lawful_whole c.args.text.now _ _ c.in_ok-alone_taken.ensures.pattern source c.in_err-whole.ensures.refused)

pub returns-then-not-alone_taken-clause-fault : goal.returns-then-not-alone_taken-clause-fault
returns-then-not-alone_taken-clause-fault c =
    let source : c.as_str.result.now ≡ anchored c.args.text.now = search rules in
    both_read c.args.text.now c.in_ok-alone_taken.ensures.pattern (rw source at c.in_ok-whole.ensures.pattern)

pub returns-clause-pattern : goal.returns-clause-pattern
returns-clause-pattern c =
    let source : c.as_str.result.now ≡ anchored c.args.text.now = search rules in
    both_read c.args.text.now c.in_ok-alone_taken.ensures.pattern (rw source at c.in_ok-whole.ensures.pattern)
