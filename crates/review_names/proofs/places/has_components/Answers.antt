use Rattle.std.proofs.Common.{rules, sym, ◌∙◌, arith}
use Rattle.review_names.proofs.Components.{refused, left, last}
use Rattle.review_names.proofs.places.has_components.Goals as goal

pub returns-then-not-is_met : goal.returns-then-not-is_met
returns-then-not-is_met g c =
    refused g.F.Form.is_form c.loop-component.rest.now c.in-Some.component.now c.in-Some.more.now _ c.loop-component.invariant.left
    (c.in-Some.ensures.byte (omega arith) (λ w o h. h)) (sym c.is_met.ensures ∙ c.if-not-is_met.true)

pub returns : goal.returns
returns g c =
    c.is_met-2.ensures ∙ last g.F.Form.is_form c.loop-component.rest.now _ c.loop-component.invariant.left (c.in_default.ensures.byte (omega arith) (λ w o h. h))

pub loop-component-preserved : goal.loop-component-preserved
loop-component-preserved g c = record {
  left = left g.F.Form.is_form c.loop-component.rest.now c.in-Some.component.now c.in-Some.more.now _ c.loop-component.invariant.left
      (c.in-Some.ensures.byte (omega arith) (λ w o h. h)) (sym c.is_met.ensures ∙ c.if-not-is_met.false);
  utf8 = search rules;
}
