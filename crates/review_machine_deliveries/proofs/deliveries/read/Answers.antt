use Rattle.std.proofs.Common.{inl, rules, subst, sym, option_copied}
use Rattle.{review_words.specs.declared.command.Delivery.TheVariants.Read, review_machine_rows.specs.Steps.OfQuery}
use Rattle.review_machine_deliveries.proofs.Served.{shown_served, shown_counts, shown_keeps, unread_keeps, unread_served, err_reply}
use Rattle.review_machine_deliveries.specs.Gathered.{IsAllAsked}
use Rattle.review_machine_deliveries.specs.Replies.{IsServed, KeepsUntaken, CountsReply}
use Rattle.review_machine_deliveries.proofs.deliveries.read.Goals as goal

pub returns : goal.returns
returns g c = record {
  honest = search rules;
  served = λ honest h hist v.
      let x = c.in_ok-effective.ensures in
      let a = c.args in
      let old = g.S.Shelf.state a.shelf.now in
      let new = g.S.Shelf.state c.gathered.new.shelf in
      let enough = subst (λ f. IsAllAsked a.caller (OfQuery a.query.now) f c.gathered.new.rows) (sym c.as_ref.ensures.value) x.enough in
      shown_served h a.caller a.query.now c.show.result (option_copied c.as_ref.result) c.gathered.new.rows old new hist v (x.found honest (inl c.new-rows.ensures)) enough c.show.ensures.answered c.show.ensures.shown c.show.ensures.cause (x.gathers.tables honest) x.gathers.counted (x.gathers.stops honest);
  unchanged = λ honest.
      shown_keeps c.args.caller c.args.query.now (option_copied c.as_ref.result) c.gathered.new.rows c.show.result (g.S.Shelf.state c.args.shelf.now).tables (g.S.Shelf.state c.gathered.new.shelf).tables
      c.show.ensures.answered c.show.ensures.cause (c.in_ok-effective.ensures.gathers.tables honest);
  once = λ honest. tt;
  counted =
      shown_counts c.args.caller c.args.query.now (option_copied c.as_ref.result) c.gathered.new.rows c.show.result (g.S.Shelf.state c.args.shelf.now).faults (g.S.Shelf.state c.gathered.new.shelf).faults c.show.ensures.answered c.show.ensures.cause c.in_ok-effective.ensures.gathers.counted;
}

pub returns-in_err-effective : goal.returns-in_err-effective
returns-in_err-effective g c = record {
  honest = search rules;
  served = λ honest h hist v.
      let x = c.in_err-effective.ensures in
      let a = c.args in
      let cause = c.in_err-effective.field-0.0 in
      let old = g.S.Shelf.state a.shelf.now in
      let new = g.S.Shelf.state c.gathered.new.shelf in
      subst (λ r. IsServed h (Read a.caller a.query.now) r old new) (err_reply c.from_residual.result cause c.from_residual.ensures)
      (unread_served h a.caller a.query.now cause old new hist v (x.cause honest (inl c.new-rows.ensures)) (x.gathers.tables honest) x.gathers.counted (x.gathers.stops honest));
  unchanged = λ honest.
      let x = c.in_err-effective.ensures in
      let a = c.args in
      let old = (g.S.Shelf.state a.shelf.now).tables in
      let new = (g.S.Shelf.state c.gathered.new.shelf).tables in
      subst (λ r. KeepsUntaken (Read a.caller a.query.now) r old new) (err_reply c.from_residual.result c.in_err-effective.field-0.0 c.from_residual.ensures)
      (unread_keeps a.caller a.query.now c.in_err-effective.field-0.0 old new (x.cause honest (inl c.new-rows.ensures)) (x.gathers.tables honest));
  once = λ honest. tt;
  counted =
      let after = (g.S.Shelf.state c.gathered.new.shelf).faults in
      subst (λ r. CountsReply r ((g.S.Shelf.state c.args.shelf.now).faults) after) (err_reply c.from_residual.result c.in_err-effective.field-0.0 c.from_residual.ensures)
      c.in_err-effective.ensures.gathers.counted;
}
