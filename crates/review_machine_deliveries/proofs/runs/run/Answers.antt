use Rattle.std.proofs.Common.{◌≡◌, ◌+◌, List, [], ◌∷◌, ◌++◌, take, length, sym, ap, ◌∙◌, subst, rules, arith}
use Rattle.review_machine_rows.proofs.Common.{Delivery, Reply, common_steps, take_more}
use Rattle.review_machine_deliveries.proofs.Ran.{ran_none, ran_one, ran-append}
use Rattle.review_machine_deliveries.specs.Delivered.{WasRun}
use Rattle.review_machine_deliveries.proofs.runs.run.Goals as goal

pub returns-in_default-clause-ran : goal.returns-in_default-clause-ran
returns-in_default-clause-ran g c =
    let s = g.S.Shelf.state c.args.shelf.now in
    subst (λ (rs : List Reply). WasRun (take (length rs) c.args.deliveries.now) rs s s) (sym c.new.ensures.items) (ran_none s)

pub loop-delivery-init : goal.loop-delivery-init
loop-delivery-init g c = record {
  so_far =
      let s = g.S.Shelf.state c.args.shelf.now in
      subst (λ (rs : List Reply). WasRun [] rs s s) (sym c.in-Ok.ensures.items) (ran_none s);
  count = search rules;
  room = search rules;
}

pub loop-delivery-preserved : goal.loop-delivery-preserved
loop-delivery-preserved g c = record {
  so_far =
      let l = c.loop-delivery in
      let ds = c.args.deliveries.now in
      let i = l.delivery-index in
      let d = c.delivery-item.result in
      let r = c.deliver-reply.result in
      let old = g.S.Shelf.state c.args.shelf.now in
      let mid = g.S.Shelf.state l.shelf in
      let new = g.S.Shelf.state c.deliver-reply.new.shelf in
      let more = ran-append (take i ds) (d ∷ []) l.replies.items (r ∷ []) old mid new l.invariant.so_far (ran_one d r mid new c.deliver-reply.ensures) in
      let items : c.push.new.self.items ≡ l.replies.items ++ r ∷ [] = grind (arith, common_steps) in
      let taken : take (i + 1) ds ≡ take i ds ++ d ∷ [] = take_more ds i d c.loop-delivery-test.true ∙ ap (λ x. take i ds ++ x ∷ []) (sym c.delivery-item.is) in
      subst (λ (p : List Delivery × List Reply). WasRun p.0 p.1 old new) (λ j. (sym taken j, sym items j)) more;
  count = grind (arith, common_steps);
  room = grind (arith, common_steps);
}
