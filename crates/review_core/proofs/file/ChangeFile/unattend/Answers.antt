use Rattle.std.proofs.Common.{◌==◌, ◌&&◌, ◌∙◌, ap, not, None, true, if◌then◌else◌, refl}
use Rattle.std.proofs.Math.Bool.{and-true}
use Rattle.review_words.specs.declared.command.ChangeCommand.TheVariants.{RemoveAttention}
use Rattle.review_core_rules.specs.{Change.eligible, Change.no_copying, Change.settled, Seen.of_account, Seen.seen}
use Rattle.review_core_tables.proofs.Accounts.{kept_nothing}
use Rattle.review_core.proofs.file.ChangeFile.unattend.Goals as goal

pub returns : goal.returns
returns c =
    let rows = c.args.self.now.rows.now in
    let v = c.args.account in
    let same = c.in_ok-edited.ensures.same in record {
      over = ap (λ b. b.now) c.in_ok-edited.ensures.rows;
      made = λ i. record (same i) {
        attention = λ u. (c.in_ok-drop_called.ensures.called u ∙ ((λ j. if (v == u) && true then None else (same j).attention u) ∙ (ap (λ b. if b then None else of_account rows.attention u) (and-true (v == u))
            ∙ kept_nothing (eligible (settled no_copying (RemoveAttention v c.args.reason.now) c.args.caller c.args.request (seen rows)) u && (not (c.args.caller == u) && not rows.header.wip))
            (if v == u then None else of_account rows.attention u) c.args.request))) i;
      };
      sound = c.stays_sound.ensures no_copying (RemoveAttention c.args.account c.args.reason.now) c.args.caller c.args.request (seen rows) c.args.self.now.sound refl;
    }
