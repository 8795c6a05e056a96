use Rattle.std.proofs.Common.{◌≡◌, Some, take, drop}
use Rattle.review_expr_terms.specs.{Scanned.lexemes, Views.toks}
use Rattle.review_expr.specs.Tokens.{tokens_before}
use Rattle.review_expr.proofs.words.tokens_of.Given as goal

abbrev pub invariant-loop-index : goal.invariant-loop-index
invariant-loop-index g l =
    tokens_before g.T.Spelled.reading (lexemes l.text (take l.index l.pieces)) (lexemes l.text (drop l.index l.pieces)) ≡ Some (toks l.tokens.items)
