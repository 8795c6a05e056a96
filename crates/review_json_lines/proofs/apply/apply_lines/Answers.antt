use Rattle.std.proofs.{Common.rules, Common.◌++◌, Common.◌∙◌, KnownBytes.Appends-trans}
use Rattle.review_json_lines.proofs.Answering.{if_err, part_either, part_left, sent_less}
use Rattle.review_json_lines.proofs.apply.apply_lines.Goals as goal

pub returns-in_err-send : goal.returns-in_err-send
returns-in_err-send g c =
    let ran = c.answer_lines-outcome.ensures in
    let failed = c.in_err-send.ensures in
    let part = sent_less _ _ _ _ failed.part.1 (part_either _ _ _ ran.0 ran.1 _ ran.7 ran.8) in
    record {
      lines = ran.0;
      replies = ran.1;
      first = ran.2;
      each = ran.3;
      did = ran.4;
      text = ran.5 ++ failed.part.0;
      written = Appends-trans _ _ _ _ _ ran.6 failed.part.2;
      whole = search rules;
      left = if_err _ _ _ c.from_residual.ensures.1 (λ f is. part_left f ran.0 ran.1 _ (is ∙ failed.cause) part);
    }

pub returns : goal.returns
returns g c =
    let ran = c.answer_lines-outcome.ensures in
    record {
      lines = ran.0;
      replies = ran.1;
      first = ran.2;
      each = ran.3;
      did = ran.4;
      text = _;
      written = Appends-trans _ _ _ _ _ ran.6 c.in_ok-send.ensures.sent;
      whole = ran.7;
      left = ran.8;
    }
