use Rattle.std.proofs.Common.{◌==◌, ◌&&◌, ◌∙◌, not, None, ap, refl}
use Rattle.review_words.specs.declared.command.ChangeCommand.TheVariants.{Abandon}
use Rattle.review_core_rules.specs.{Change.eligible, Change.no_copying, Change.settled, Seen.seen}
use Rattle.review_core_tables.proofs.Accounts.{kept_nothing}
use Rattle.review_core.proofs.file.ChangeFile.abandon.Goals as goal

pub returns : goal.returns
returns c =
    let rows = c.args.self.now.rows.now in
    let same = c.in_ok-edited.ensures.same in
    let after = settled no_copying Abandon c.args.caller c.args.request (seen rows) in record {
      over = ap (λ b. b.now) c.in_ok-edited.ensures.rows;
      made = λ i. record (same i) {
        attention = λ u. (c.in_ok-clear.ensures.rows u ∙ kept_nothing (eligible after u && (not (c.args.caller == u) && not after.wip)) None c.args.request) i;
      };
      sound = c.stays_sound.ensures no_copying Abandon c.args.caller c.args.request (seen rows) c.args.self.now.sound refl;
    }
