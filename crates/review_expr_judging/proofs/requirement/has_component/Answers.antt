use Rattle.std.proofs.Common.{rules, ℕ, List, sym, ◌∙◌, arith}
use Rattle.std.specs.Str.{bytes_eq}
use Rattle.review_expr_judging.proofs.Lists.{component_found, component_left, component_last}
use Rattle.review_expr_judging.proofs.requirement.has_component.Goals as goal

pub returns-then-eq : goal.returns-then-eq
returns-then-eq c =
    component_found (λ (part : List ℕ). bytes_eq part c.args.name.now) c.loop-component.rest.now c.in-Some.component.now c.in-Some.more.now _ c.loop-component.invariant.left
    (c.in-Some.ensures.byte (omega arith) (λ w o h. h)) (sym c.eq.ensures ∙ c.if-eq.true)

pub loop-component-preserved : goal.loop-component-preserved
loop-component-preserved c = record {
  left = component_left (λ (part : List ℕ). bytes_eq part c.args.name.now) c.loop-component.rest.now c.in-Some.component.now c.in-Some.more.now _ c.loop-component.invariant.left
      (c.in-Some.ensures.byte (omega arith) (λ w o h. h)) (sym c.eq.ensures ∙ c.if-eq.false);
  utf8 = search rules;
}

pub returns : goal.returns
returns c =
    c.eq-2.ensures ∙ component_last (λ (part : List ℕ). bytes_eq part c.args.name.now) c.loop-component.rest.now _ c.loop-component.invariant.left (c.in_default.ensures.byte (omega arith) (λ w o h. h))
