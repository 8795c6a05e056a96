use Rattle.std.proofs.Common.{◌≡◌, ◌≤◌, ◌+◌, suc, drop, sym, ◌∙◌, ap, arith}
use Rattle.review_expr_terms.proofs.Moves.{piece_front, none_closes, one_closes, none_left}
use Rattle.review_expr_terms.proofs.lexemes.is_balanced.Goals.{in-Word, in-Open, in-Close+else-unclosed-eq0}
use Rattle.review_expr_terms.specs.{Lexemes.balanced, Scanned.lexemes}
use Rattle.review_expr_terms.proofs.lexemes.is_balanced.Goals as goal

pub returns-then-unclosed-eq0 : goal.returns-then-unclosed-eq0
returns-then-unclosed-eq0 c = λ text.
    sym (c.loop-piece.invariant.left text) ∙ piece_front text c.loop-piece.unclosed c.args.pieces.now c.loop-piece.piece-index _ _ c.loop-piece-test.true c.in-Close.is
    ∙ none_closes c.loop-piece.unclosed (lexemes text (drop (c.loop-piece.piece-index + 1) c.args.pieces.now)) c.if-unclosed-eq0.true

pub loop-piece-preserved : goal.loop-piece-preserved
loop-piece-preserved c =
    let ps = c.args.pieces.now in
    let i = c.loop-piece.piece-index in
    let n = c.loop-piece.unclosed in
    let few : n ≤ i = c.loop-piece.invariant.few in
    elim c.match-piece.branch [
      | in-Word w ↦ record {
        few = omega (arith, few, w.unclosed-is);
        left = λ text. ap (λ k. balanced k (lexemes text (drop (i + 1) ps))) w.unclosed-is
            ∙ sym (piece_front text n ps i _ _ c.loop-piece-test.true w.in-Word.is) ∙ c.loop-piece.invariant.left text;
      }
      | in-Open w ↦ record {
        few = omega (arith, few, w.unclosed-is);
        left = λ text. (let more : c.match-piece.unclosed ≡ suc n = omega (arith, w.unclosed-is) in ap (λ k. balanced k (lexemes text (drop (i + 1) ps))) more
            ∙ sym (piece_front text n ps i _ _ c.loop-piece-test.true w.in-Open.is) ∙ c.loop-piece.invariant.left text);
      }
      | in-Close+else-unclosed-eq0 w ↦ record {
        few = omega (arith, few, w.unclosed-is);
        left = λ text. sym (one_closes n c.match-piece.unclosed (lexemes text (drop (i + 1) ps)) w.if-unclosed-eq0.false w.unclosed-is)
            ∙ sym (piece_front text n ps i _ _ c.loop-piece-test.true w.in-Close.is) ∙ c.loop-piece.invariant.left text;
      }
    ]

pub returns : goal.returns
returns c = λ text.
    sym (c.loop-piece.invariant.left text) ∙ none_left text c.loop-piece.unclosed c.args.pieces.now c.loop-piece.piece-index (omega arith)
