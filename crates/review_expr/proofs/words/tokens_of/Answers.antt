use Rattle.std.proofs.Common.{◌+◌, ap, ap₂, sym, ◌∙◌, arith, refl}
use Rattle.review_expr_terms.specs.{Scanned.lexemes, Views.toks}
use Rattle.review_expr.proofs.Reached.{word_spans, word_refused, piece_more, to_the_end}
use Rattle.review_expr.proofs.Signs.{toks_more}
use Rattle.review_expr.proofs.words.tokens_of.Goals.{in-Open+in_ok-push_back-in-Open, in-Close+in_ok-push_back-in-Close, in-Word+in_default}
use Rattle.review_expr.specs.Tokens.{opens_at, word_tokens}
use Rattle.review_expr.proofs.words.tokens_of.Goals as goal

pub overflow_add-start : goal.overflow_add-start
overflow_add-start g c =
    let s = word_spans c.args.text.now c.args.pieces.now c.loop-index.index _ c.in-Word.start c.in-Word.end c.utf8.text c.requires.laid_out c.requires.within c.loop-index-test.true c.in-Word.is in
    omega (arith, s.some)

pub range-word-requires-clause-start_le_end : goal.range-word-requires-clause-start_le_end
range-word-requires-clause-start_le_end g c =
    let s = word_spans c.args.text.now c.args.pieces.now c.loop-index.index _ c.in-Word.start c.in-Word.end c.utf8.text c.requires.laid_out c.requires.within c.loop-index-test.true c.in-Word.is in
    omega (arith, s.some)

pub range-word-requires-clause-start_boundary : goal.range-word-requires-clause-start_boundary
range-word-requires-clause-start_boundary g c = λ _.
    (word_spans c.args.text.now c.args.pieces.now c.loop-index.index _ c.in-Word.start c.in-Word.end c.utf8.text c.requires.laid_out c.requires.within c.loop-index-test.true c.in-Word.is).begins

pub range-word-requires-clause-end_boundary : goal.range-word-requires-clause-end_boundary
range-word-requires-clause-end_boundary g c =
    (word_spans c.args.text.now c.args.pieces.now c.loop-index.index _ c.in-Word.start c.in-Word.end c.utf8.text c.requires.laid_out c.requires.within c.loop-index-test.true c.in-Word.is).ends

pub returns-in-Err-clause-fault : goal.returns-in-Err-clause-fault
returns-in-Err-clause-fault g c =
    rw c.placed.ensures
    (word_refused g.T.Spelled.reading g.T.Spelled.is_deep g.T.Spelled.is_pattern c.args.text.now c.args.pieces.now c.loop-index.index _ c.in-Word.start c.in-Word.end _ c.opens_at-opens.result c.range-word.result.now c.in-Err.fault
    c.requires.laid_out c.loop-index-test.true c.in-Word.is c.loop-index.invariant
    (ap (λ ps. opens_at (c.in-Word.start + 1) (lexemes c.args.text.now ps)) (sym (to_the_end c.args.pieces.now (c.loop-index.index + 1))) ∙ c.opens_at-opens.ensures c.args.text.now)
    c.range-word.ensures.value c.in-Err.ensures.fault)

pub loop-index-preserved : goal.loop-index-preserved
loop-index-preserved g c =
    elim c.match-piece.branch [
      | in-Open+in_ok-push_back-in-Open w ↦ piece_more g.T.Spelled.reading c.args.text.now c.args.pieces.now c.loop-index.index _ _ c.loop-index.tokens.items c.match-piece.tokens.items _ c.loop-index-test.true w.in-Open.is c.loop-index.invariant refl
          (toks_more _ _ _ (ap (λ q. q.items) w.tokens-is ∙ w.in_ok-push_back-in-Open.ensures.items))
      | in-Close+in_ok-push_back-in-Close w ↦ piece_more g.T.Spelled.reading c.args.text.now c.args.pieces.now c.loop-index.index _ _ c.loop-index.tokens.items c.match-piece.tokens.items _ c.loop-index-test.true w.in-Close.is c.loop-index.invariant refl
          (toks_more _ _ _ (ap (λ q. q.items) w.tokens-is ∙ w.in_ok-push_back-in-Close.ensures.items))
      | in-Word+in_default w ↦
          let h = w.in_default.ensures.tokens in
          piece_more g.T.Spelled.reading c.args.text.now c.args.pieces.now c.loop-index.index _ _ c.loop-index.tokens.items c.match-piece.tokens.items h.0 c.loop-index-test.true w.in-Word.is c.loop-index.invariant
          (ap₂ (word_tokens g.T.Spelled.reading) (ap (λ ps. opens_at (w.in-Word.start + 1) (lexemes c.args.text.now ps)) (sym (to_the_end c.args.pieces.now (c.loop-index.index + 1))) ∙ w.opens_at-opens.ensures c.args.text.now)
          (sym w.range-word.ensures.value) ∙ h.1)
          (ap (λ q. toks q.items) w.tokens-is ∙ h.2)
    ]
