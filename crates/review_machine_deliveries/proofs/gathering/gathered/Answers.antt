use Rattle.std.proofs.Common.{Some, inr, rules, sym, subst}
use Rattle.review_machine_rows.specs.{Known.Agrees, Shelf.Shows, Steps.HasFile, Steps.texts_for, Steps.topic_of}
use Rattle.review_machine_deliveries.proofs.Filed.{come_to_file, file_stays, unread_is, passed_on}
use Rattle.review_machine_deliveries.specs.Gathered.{IsUngathered}
use Rattle.review_machine_deliveries.proofs.gathering.gathered.Goals as goal

pub gather_from-requires : goal.gather_from-requires
gather_from-requires g c = record {
  come = come_to_file (Some c.in-Some.effective) c.gather.new.rows c.args.caller (topic_of c.args.matter) c.in_ok-gather.ensures.enough;
}

pub returns-in_err-effective-clause-cause : goal.returns-in_err-effective-clause-cause
returns-in_err-effective-clause-cause g c = λ honest so_far.
    let topic = topic_of c.args.matter in
    let old = (g.S.Shelf.state c.args.shelf.now).tables in
    passed_on (IsUngathered topic old) c.from_residual-in_err-effective.result c.in_err-effective.field-0.0 c.from_residual-in_err-effective.ensures
    (unread_is old c.gather.new.rows c.args.caller topic c.in_err-effective.field-0.0 (c.in_ok-gather.ensures.found honest so_far) c.in_ok-gather.ensures.enough c.in_err-effective.ensures.cause)

pub returns-clause-enough : goal.returns-clause-enough
returns-clause-enough g c =
    let topic = topic_of c.args.matter in (
      c.in_ok-gather_from.ensures.enough,
      file_stays c.gather.new.rows c.gather_from.new.rows c.in_ok-gather_from.ensures.stays c.args.caller topic c.in-Some.effective c.in_ok-gather.ensures.enough
          (subst (HasFile (texts_for c.gather.new.rows topic)) c.in-Some.is c.in_ok-effective.ensures.read),
    )

pub returns-clause-found : goal.returns-clause-found
returns-clause-found g c = λ honest so_far.
    let x = c.in_ok-gather.ensures in
    let y = c.in_ok-gather_from.ensures in
    let between = y.looks.honest honest in
    let same = x.looks.tables between in
    subst (λ t. Shows t (λ u. Agrees u c.gather_from.new.rows)) same
    (y.found honest (inr (subst (λ t. Shows t (λ u. Agrees u c.gather.new.rows)) (sym same) (x.found between so_far))))

pub returns-clause-gathers : goal.returns-clause-gathers
returns-clause-gathers g c = record { honest = search rules; tables = search rules; stops = search rules; counted = search rules }

pub returns-in_err-gather-clause-gathers : goal.returns-in_err-gather-clause-gathers
returns-in_err-gather-clause-gathers g c = record { honest = search rules; tables = search rules; stops = search rules; counted = search rules }

pub returns-in_err-effective-clause-gathers : goal.returns-in_err-effective-clause-gathers
returns-in_err-effective-clause-gathers g c = record { honest = search rules; tables = search rules; stops = search rules; counted = search rules }

pub returns-in_default-clause-gathers : goal.returns-in_default-clause-gathers
returns-in_default-clause-gathers g c = record { honest = search rules; tables = search rules; stops = search rules; counted = search rules }

pub returns-in_err-gather_from-clause-gathers : goal.returns-in_err-gather_from-clause-gathers
returns-in_err-gather_from-clause-gathers g c = record { honest = search rules; tables = search rules; stops = search rules; counted = search rules }
