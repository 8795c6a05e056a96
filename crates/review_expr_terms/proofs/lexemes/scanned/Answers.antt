use Rattle.std.proofs.{Common.◌≡◌, Common.sym, Common.◌∙◌, Common.arith, Common.length, lemmas.List.map-append}
use Rattle.review_expr_terms.proofs.Moves.{at_end, cut_of, uncut, unclosed, closed, between}
use Rattle.review_expr_terms.proofs.lexemes.scanned.Goals as goal

pub returns-in_default-clause-cut : goal.returns-in_default-clause-cut
returns-in_default-clause-cut c =
    let whole = at_end c.args.text.now c.loop-at.at _ _ (omega arith) c.loop-at.invariant.kept in
    cut_of _ c.args.text.now (sym whole ∙ between c.args.text.now c.loop-at.at _ c.loop-at.scanner.start c.loop-at.scanner.quoted c.in_default.is)

pub returns-then-scanner-clause-fault : goal.returns-then-scanner-clause-fault
returns-then-scanner-clause-fault c =
    let whole = at_end c.args.text.now c.loop-at.at _ _ (omega arith) c.loop-at.invariant.kept in
    uncut c.args.text.now (sym whole ∙ unclosed c.args.text.now c.loop-at.at c.in-Some.start _ c.loop-at.scanner.start c.loop-at.scanner.quoted c.in-Some.is c.if-scanner.true)

pub returns-clause-cut : goal.returns-clause-cut
returns-clause-cut c =
    let end : c.loop-at.at ≡ length c.args.text.now = omega arith in
    let whole = at_end c.args.text.now c.loop-at.at _ _ end c.loop-at.invariant.kept in
    rw (c.in_ok-push.ensures.items, map-append, ← end)
    (cut_of _ c.args.text.now (sym whole ∙ closed c.args.text.now c.loop-at.at c.in-Some.start _ c.loop-at.scanner.start c.loop-at.scanner.quoted c.in-Some.is c.if-scanner.false))
