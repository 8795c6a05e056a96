use Rattle.std.proofs.Common.{◌∙◌, ap, sym, refl, lit<, Some, ◌∷◌, []}
use Rattle.std.proofs.lemmas.Str.Pattern.{strip_prefix_char}
use Rattle.review_expr_terms.specs.{Grammar.Minus, Views.tok}
use Rattle.review_expr.proofs.Signs.{bare_word, bare_unsigned, no_minus, signed_term, fault_along, signed_alone, toks_more, toks_two}
use Rattle.review_expr.specs.Tokens.{alone, behind_minus, lone_minus}
use Rattle.review_expr.proofs.words.push_word.Goals as goal

pub returns-in-Err-clause-fault : goal.returns-in-Err-clause-fault
returns-in-Err-clause-fault g c =
    rw (bare_word g.T.Spelled.reading c.args.opens c.args.word.now (no_minus _ c.in_default.ensures.cases), bare_unsigned c.args.word.now (no_minus _ c.in_default.ensures.cases))
    (fault_along alone (λ flaw. refl) _ _ _ c.in-Err.fault c.in-Err.ensures.fault)

pub returns-in_default-clause-tokens : goal.returns-in_default-clause-tokens
returns-in_default-clause-tokens g c = (
  tok c.in-Ok.token ∷ [],
  bare_word g.T.Spelled.reading c.args.opens c.args.word.now (no_minus _ c.in_default.ensures.cases) ∙ ap alone c.in-Ok.ensures.token,
  toks_more _ _ _ c.in_ok-push_back.ensures.items,
)

pub returns-then-is_empty-clause-tokens : goal.returns-then-is_empty-clause-tokens
returns-then-is_empty-clause-tokens g c =
    let w = strip_prefix_char 45 c.args.word.now (Some c.in-Some.bare) c.in-Some.ensures.cases (lit< tt) in (
      Minus ∷ [],
      signed_alone g.T.Spelled.reading c.args.opens c.args.word.now _ w (sym c.is_empty.ensures ∙ c.if-is_empty.true) ∙ ap lone_minus c.if-not-opens.false,
      toks_more _ _ _ c.in_ok-push_back-2.ensures.items,
    )

pub returns-clause-tokens : goal.returns-clause-tokens
returns-clause-tokens g c =
    let w = strip_prefix_char 45 c.args.word.now (Some c.in-Some.bare) c.in-Some.ensures.cases (lit< tt) in (
      Minus ∷ tok c.in-Ok-read_token.token ∷ [],
      signed_term g.T.Spelled.reading c.args.opens c.args.word.now _ w (sym c.is_empty.ensures ∙ c.if-is_empty.false)
          (sym (c.starts_with.ensures.byte (lit< tt) (lit< tt) (λ _ _ h. h)) ∙ c.if-starts_with.false)
          ∙ ap behind_minus c.in-Ok-read_token.ensures.token,
      toks_two _ _ _ _ _ c.in_ok-push_back-3.ensures.items c.in_ok-push_back-4.ensures.items,
    )
