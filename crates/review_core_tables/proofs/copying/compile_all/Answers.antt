use Rattle.std.proofs.Common.{◌∷◌, [], sym, subst, arith}
use Rattle.std.{proofs.lemmas.List.Elements.All-append, proofs.lemmas.List.Elements.All-cons, specs.List.All}
use Rattle.review_core_tables.{proofs.Compiled.next_label, specs.Conditions.IsCompiled}
use Rattle.review_core_tables.proofs.copying.compile_all.Goals as goal

pub loop-label-preserved : goal.loop-label-preserved
loop-label-preserved c = (
  next_label c.args.labels.now c.loop-label.label-index c.label-item.result c.loop-label.list.items c.push.new.self.items c.in_ok-condition.condition c.loop-label-test.true c.label-item.is c.in_ok-push.ensures.items c.in_ok-condition.ensures.label c.loop-label.invariant.0,
  subst (All IsCompiled) (sym c.in_ok-push.ensures.items)
      (All-append IsCompiled c.loop-label.list.items (c.in_ok-condition.condition ∷ []) c.loop-label.invariant.1
      (All-cons IsCompiled c.in_ok-condition.condition [] c.in_ok-condition.ensures.terms (λ k d h. absurd (omega (arith, h))))),
)
