use Rattle.review_expr_terms.specs.Views.{toks}
use Rattle.review_expr.proofs.Verdicts.{with_tokens, shape_refused}
use Rattle.review_expr.proofs.reader.read_tree.Goals as goal

pub returns-in-Ok-parse-clause-tree : goal.returns-in-Ok-parse-clause-tree
returns-in-Ok-parse-clause-tree g c =
    let cut = c.in-Ok.ensures in (
      toks c.in-Ok-tokens_of.tokens.items,
      with_tokens g.T.Spelled.reading c.args.text.now c.as_bytes.result.now c.in-Ok.pieces.items c.deref.result.now _
          c.as_bytes.ensures.value cut.short cut.cut cut.some cut.balanced c.deref.ensures.value c.in-Ok-tokens_of.ensures.tokens,
      c.in-Ok-parse.ensures.tree,
    )

pub returns-clause-fault : goal.returns-clause-fault
returns-clause-fault g c =
    let cut = c.in-Ok.ensures in
    let h = with_tokens g.T.Spelled.reading c.args.text.now c.as_bytes.result.now c.in-Ok.pieces.items c.deref.result.now (toks c.in-Ok-tokens_of.tokens.items)
    c.as_bytes.ensures.value cut.short cut.cut cut.some cut.balanced c.deref.ensures.value c.in-Ok-tokens_of.ensures.tokens in
    rw c.shape_fault.ensures
    (shape_refused g.T.Spelled.reading g.T.Spelled.is_deep g.T.Spelled.is_pattern c.args.text.now _ c.in-Err-parse.fault h c.in-Err-parse.ensures.fault)
