use Rattle.std.proofs.Common.{◌==◌, ◌∙◌, None, Some, if◌then◌else◌, ap}
use Rattle.review_words.specs.declared.command.ChangeCommand.TheVariants.{AddAttention}
use Rattle.review_core_rules.specs.{Change.kept_or, Change.no_copying, Seen.seen, declared.rows.Why.TheVariants.Told}
use Rattle.review_core.proofs.file.ChangeFile.attend.Goals as goal

pub returns : goal.returns
returns c =
    let rows = c.args.self.now.rows.now in
    let same = c.in_ok-edited.ensures.same in record {
      over = ap (λ b. b.now) c.in_ok-edited.ensures.rows;
      made = λ i. record (same i) {
        attention = λ u. (c.in_ok-tell.ensures.called u ∙ (λ j. kept_or ((same j).attention u) (if c.args.account == u then Some (Told c.args.reason.now) else None) c.args.request)) i;
      };
      sound = c.stays_sound.ensures no_copying (AddAttention c.args.account c.args.reason.now) c.args.caller c.args.request (seen rows) c.args.self.now.sound c.requires;
    }
