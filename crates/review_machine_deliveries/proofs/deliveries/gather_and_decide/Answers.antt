use Rattle.std.proofs.Common.{inl, rules, subst, sym, option_copied}
use Rattle.review_machine_rows.specs.Steps.{OfCommand}
use Rattle.review_machine_deliveries.proofs.Deciding.{counts_none, leaves_alike, ungathered_undecided, was_decided, was_stored, was_undecided}
use Rattle.review_machine_deliveries.proofs.Filed.{passed_on}
use Rattle.review_machine_deliveries.specs.{Gathered.IsAllAsked, inner.Deciding.WasUndecided}
use Rattle.review_machine_deliveries.proofs.deliveries.gather_and_decide.Goals as goal

pub returns-clause-decided : goal.returns-clause-decided
returns-clause-decided g c = λ honest.
    let x = c.in_ok-effective.ensures in
    let a = c.args in
    let file = option_copied c.as_ref.result in
    let asked = subst (λ f. IsAllAsked a.caller (OfCommand a.command.now) f c.gathered.new.rows) (sym c.as_ref.ensures.value) x.enough in
    was_decided a.caller a.epoch a.command.now (g.S.Shelf.state a.shelf.now).tables file c.gathered.new.rows c.decide.result asked (x.found honest (inl c.new-rows.ensures)) c.decide.ensures.decided

pub returns-clause-stored : goal.returns-clause-stored
returns-clause-stored g c = was_stored c.args.caller c.args.epoch c.args.command.now (option_copied c.as_ref.result) c.gathered.new.rows c.decide.result c.decide.ensures.decided

pub returns-clause-cause : goal.returns-clause-cause
returns-clause-cause g c = λ honest.
    let x = c.in_ok-effective.ensures in
    let a = c.args in
    let file = option_copied c.as_ref.result in
    let asked = subst (λ f. IsAllAsked a.caller (OfCommand a.command.now) f c.gathered.new.rows) (sym c.as_ref.ensures.value) x.enough in
    was_undecided a.caller a.command.now (g.S.Shelf.state a.shelf.now).tables file c.gathered.new.rows c.decide.result asked (x.found honest (inl c.new-rows.ensures)) c.decide.ensures.cause

pub returns-clause-gathers : goal.returns-clause-gathers
returns-clause-gathers g c =
    let x = c.in_ok-effective.ensures.gathers in
    let old = g.S.Shelf.state c.args.shelf.now in
    let new = g.S.Shelf.state c.gathered.new.shelf in
    record {
      honest = x.honest;
      tables = λ honest. leaves_alike c.decide.result old.tables new.tables (x.tables honest);
      stops = x.stops;
      counted = counts_none c.args.caller c.args.command.now (option_copied c.as_ref.result) c.gathered.new.rows c.decide.result old.faults new.faults c.decide.ensures.cause x.counted;
    }

pub returns-in_err-effective-clause-gathers : goal.returns-in_err-effective-clause-gathers
returns-in_err-effective-clause-gathers g c = record { honest = search rules; tables = search rules; stops = search rules; counted = search rules }

pub returns-in_err-effective-clause-cause : goal.returns-in_err-effective-clause-cause
returns-in_err-effective-clause-cause g c = λ honest.
    let x = c.in_err-effective.ensures in
    let a = c.args in
    let old = (g.S.Shelf.state a.shelf.now).tables in
    passed_on (WasUndecided a.command.now old) c.from_residual.result c.in_err-effective.field-0.0 c.from_residual.ensures (ungathered_undecided a.command.now old c.in_err-effective.field-0.0 (x.cause honest (inl c.new-rows.ensures)))
