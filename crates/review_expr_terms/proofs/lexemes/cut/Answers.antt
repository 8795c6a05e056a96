use Rattle.std.proofs.Common.{◌≤◌, length, ap, sym, ◌∙◌, arith}
use Rattle.review_expr_terms.{proofs.Moves.unbalanced, specs.Lexemes.balanced, specs.Scanned.lexemes}
use Rattle.review_expr_terms.proofs.lexemes.cut.Goals as goal

pub returns-then-not-is_balanced-clause-fault : goal.returns-then-not-is_balanced-clause-fault
returns-then-not-is_balanced-clause-fault c =
    let short : length c.args.text.now ≤ 4096 = omega arith in (
      short,
      unbalanced c.args.text.now (lexemes c.args.text.now c.in-Ok.pieces.items) c.in-Ok.ensures.cut
          (ap (λ ps. balanced 0 (lexemes c.args.text.now ps)) (sym c.deref.ensures.value) ∙ c.is_balanced.ensures c.args.text.now ∙ c.if-not-is_balanced.true),
    )

pub returns-clause-balanced : goal.returns-clause-balanced
returns-clause-balanced c =
    ap (λ ps. balanced 0 (lexemes c.args.text.now ps)) (sym c.deref.ensures.value) ∙ c.is_balanced.ensures c.args.text.now ∙ c.if-not-is_balanced.false
