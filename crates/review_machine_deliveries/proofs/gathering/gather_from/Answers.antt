use Rattle.std.proofs.Common.{◌∙◌, ap, refl, rules, sym, subst, option_copied, IfSome}
use Rattle.review_machine_rows.specs.{Known.AgreesBeside, Shelf.Shows, Steps.ComesTo, Steps.topic_of, Steps.wants_in}
use Rattle.review_machine_deliveries.proofs.Filed.{step_lowers, step_stays, none_asked, so_far_asked, so_far_shown, stays_known}
use Rattle.review_machine_deliveries.proofs.gathering.gather_from.Goals as goal

pub loop-need-init : goal.loop-need-init
loop-need-init g c = record {
  honest = λ h. h;
  found = λ h so_far. so_far;
  stays = λ w there. refl;
  tables = λ h. refl;
  stops = λ h t x. x;
  come = c.requires.come;
  counted = refl;
}

pub loop-need-smaller : goal.loop-need-smaller
loop-need-smaller g c =
    let l = c.loop-need in
    let file = option_copied c.args.effective in
    let topic = topic_of c.args.matter in
    let wants = c.in-Some.need.wants.items in
    let is = ap wants_in (sym c.in-Some.is) ∙ c.in_ok-need.ensures.need l.invariant.come in
    let asked = c.in_ok-load.ensures.asked in
    step_lowers file l.rows c.load.new.rows c.args.caller topic wants is asked.all (step_stays file l.rows c.load.new.rows c.args.caller topic wants is asked)

pub loop-need-preserved : goal.loop-need-preserved
loop-need-preserved g c =
    let l = c.loop-need in
    let i = l.invariant in
    let x = c.in_ok-load.ensures in
    let more = c.load.new.rows in
    let file = option_copied c.args.effective in
    let topic = topic_of c.args.matter in
    let is = ap wants_in (sym c.in-Some.is) ∙ c.in_ok-need.ensures.need i.come in
    let stays = step_stays file l.rows more c.args.caller topic c.in-Some.need.wants.items is x.asked in
    record {
      honest = λ h. i.honest (x.honest h);
      found = λ h so_far. so_far_asked (g.S.Shelf.state c.args.shelf.now).tables l.rows more (i.found (x.honest h) so_far)
          (subst (λ t. Shows t (λ u. AgreesBeside u l.rows more)) (i.tables (x.honest h)) (x.found h));
      stays = stays_known c.args.rows.now l.rows more i.stays stays;
      tables = λ h. x.tables h ∙ i.tables (x.honest h);
      stops = λ h t s. i.stops (x.honest h) t (x.stops h t s);
      come = subst (λ n. IfSome n (λ m. ComesTo file l.rows c.args.caller topic m.wants.items c.next_need.new.come)) c.in-Some.is (c.in_ok-need.ensures.come i.come) more x.asked.all stays;
      counted = x.counted ∙ i.counted;
    }

pub returns-clause-found : goal.returns-clause-found
returns-clause-found g c = λ h so_far.
    let file = option_copied c.args.effective in
    let rows = c.loop-need.rows in
    let topic = topic_of c.args.matter in
    so_far_shown (g.S.Shelf.state c.args.shelf.now).tables file rows c.args.caller topic (c.loop-need.invariant.found h so_far)
    (none_asked file rows c.args.caller topic _ c.in_default.is (c.in_ok-need.ensures.need c.loop-need.invariant.come))

pub returns-clause-enough : goal.returns-clause-enough
returns-clause-enough g c =
    none_asked (option_copied c.args.effective) c.loop-need.rows c.args.caller (topic_of c.args.matter) _ c.in_default.is (c.in_ok-need.ensures.need c.loop-need.invariant.come)

pub returns-clause-looks : goal.returns-clause-looks
returns-clause-looks g c =
    let i = c.loop-need.invariant in
    record { honest = i.honest; tables = i.tables; damaged = λ h. tt; stops = i.stops; counted = i.counted }

pub returns-in_err-need-clause-looks : goal.returns-in_err-need-clause-looks
returns-in_err-need-clause-looks g c = record { honest = search rules; tables = search rules; damaged = search rules; stops = search rules; counted = search rules }

pub returns-in_err-load-clause-looks : goal.returns-in_err-load-clause-looks
returns-in_err-load-clause-looks g c = record { honest = search rules; tables = search rules; damaged = search rules; stops = search rules; counted = search rules }
