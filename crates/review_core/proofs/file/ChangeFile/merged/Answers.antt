use Rattle.{std.proofs.Common.ap, review_core_rules.specs.Seen.seen}
use Rattle.review_core.proofs.file.ChangeFile.merged.Goals as goal

pub returns : goal.returns
returns c =
    let rows = c.args.self.now.rows.now in
    let same = c.in_ok-edited.ensures.same in record {
      over = ap (λ b. b.now) c.in_ok-edited.ensures.rows;
      made = λ i. record (same i) {
        place = c.args.place;
        attention = λ u. c.in_ok-clear.ensures.rows u i;
      };
      sound = c.joins_sound.ensures c.args.place c.args.request (seen rows) c.args.self.now.sound;
    }
