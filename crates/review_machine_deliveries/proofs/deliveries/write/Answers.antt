use Rattle.std.proofs.Common.{◌∙◌, None, rules, sym, subst}
use Rattle.review_words.specs.{History.Identity, declared.command.Delivery.TheVariants.Write}
use Rattle.review_machine_rows.specs.{Rows.kept_row, Shelf.Answers, Shelf.IsRecalled, Shelf.Shows}
use Rattle.review_machine_deliveries.proofs.Histories.{repeated, repeat_keeps}
use Rattle.review_machine_deliveries.proofs.Served.{closed_served, repeat_served, after_read, views_stay, unrecalled}
use Rattle.review_machine_deliveries.specs.Replies.{StoresOnce, KeepsUntaken}
use Rattle.review_machine_deliveries.specs.inner.Words.{IsToldAgain, reply_of}
use Rattle.review_machine_deliveries.proofs.deliveries.write.Goals as goal

pub returns-in-Kept : goal.returns-in-Kept
returns-in-Kept g c =
    let x = c.in_ok-kept.ensures in
    let old = g.S.Shelf.state c.args.shelf.now in
    let new = g.S.Shelf.state c.recall.new.self in
    let found = λ (honest : new.is_honest). subst (λ k. Shows old.tables (λ t. IsRecalled t (record { caller = c.args.caller; epoch = c.args.epoch; id = c.args.id.now }) k)) c.in-Kept.is (x.found honest) in
    let told = subst (λ text. IsToldAgain (kept_row c.in-Kept.kept) text c.repeated.result) (c.as_str.ensures.value ∙ c.in_ok-content.ensures) c.repeated.ensures in record {
      honest = search rules;
      served = λ honest h hist v.
          repeat_served h (kept_row c.in-Kept.kept) c.args.caller c.args.epoch c.args.id.now c.args.command.now c.repeated.result old new hist v (found honest) told (x.tables honest) x.counted (x.stops honest);
      unchanged = λ honest. repeat_keeps c.args.caller c.args.epoch c.args.id.now c.args.command.now c.repeated.result (kept_row c.in-Kept.kept) old.tables new.tables (found honest) told (x.tables honest);
      once = λ honest. repeated c.args.caller c.args.epoch c.args.id.now c.args.command.now c.repeated.result (kept_row c.in-Kept.kept) old.tables new.tables (found honest) told (x.tables honest);
      counted = search rules;
    }

pub returns-in-Fresh : goal.returns-in-Fresh
returns-in-Fresh g c =
    let x = c.in_ok-kept.ensures in
    let i : Identity = record { caller = c.args.caller; epoch = c.args.epoch; id = c.args.id.now } in
    let delivery = Write c.args.caller c.args.epoch c.args.id.now c.args.command.now in
    let old = g.S.Shelf.state c.args.shelf.now in
    let mid = g.S.Shelf.state c.recall.new.self in
    let new = g.S.Shelf.state c.first_arrival.new.shelf in
    let found = λ (between : mid.is_honest). subst (λ k. Shows old.tables (λ t. IsRecalled t i k)) c.in-Fresh.is (x.found between) in
    let none = λ (between : mid.is_honest). subst (λ t. Shows t (λ u. Answers u i None)) (sym (x.tables between)) (found between) in record {
      honest = search rules;
      served = λ honest h hist v.
          let between = c.first_arrival.ensures.honest honest in
          after_read h delivery (reply_of c.first_arrival.result) old mid new x.counted (x.stops between)
          (c.first_arrival.ensures.served honest h hist (views_stay h old.tables mid.tables (x.tables between) v) (unrecalled h old.tables i hist v (found between)));
      unchanged = λ honest.
          let between = c.first_arrival.ensures.honest honest in
          subst (λ t. KeepsUntaken delivery (reply_of c.first_arrival.result) t new.tables) (x.tables between) (c.first_arrival.ensures.unchanged honest (none between));
      once = λ honest.
          let between = c.first_arrival.ensures.honest honest in
          subst (λ t. StoresOnce delivery (reply_of c.first_arrival.result) t new.tables) (x.tables between) (c.first_arrival.ensures.once honest (none between));
      counted = search rules;
    }

pub returns-in-Closed : goal.returns-in-Closed
returns-in-Closed g c =
    let x = c.in_ok-kept.ensures in
    let old = g.S.Shelf.state c.args.shelf.now in
    let new = g.S.Shelf.state c.recall.new.self in
    let found = λ (honest : new.is_honest). subst (λ k. Shows old.tables (λ t. IsRecalled t (record { caller = c.args.caller; epoch = c.args.epoch; id = c.args.id.now }) k)) c.in-Closed.is (x.found honest) in record {
      honest = search rules;
      served = λ honest h hist v. closed_served h c.args.caller c.args.epoch c.args.id.now c.args.command.now old new hist v (found honest) (x.tables honest) x.counted (x.stops honest);
      unchanged = λ honest. (found honest, x.tables honest);
      once = search rules;
      counted = search rules;
    }

pub returns-in_err-content : goal.returns-in_err-content
returns-in_err-content g c = record { honest = search rules; served = search rules; unchanged = search rules; once = search rules; counted = search rules }

pub returns-in_err-kept : goal.returns-in_err-kept
returns-in_err-kept g c = record { honest = search rules; served = search rules; unchanged = search rules; once = search rules; counted = search rules }
