use Rattle.std.proofs.Common.{◌≡◌, ◌≤◌, ℕ, List, drop}
use Rattle.review_expr_terms.specs.{Lexemes.balanced, Scanned.lexemes}
use Rattle.review_expr_terms.proofs.lexemes.is_balanced.Given as goal

abbrev pub invariant-loop-piece : goal.invariant-loop-piece
invariant-loop-piece l = record {
  few : l.unclosed ≤ l.piece-index;
  left : (text : List ℕ) → balanced l.unclosed (lexemes text (drop l.piece-index l.pieces)) ≡ balanced 0 (lexemes text l.pieces);
}
