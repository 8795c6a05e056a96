use Rattle.{std.proofs.Common.◌∙◌, review_json.proofs.Texts.whole_text, review_json.specs.Answer.reply_data}
use Rattle.review_json.proofs.answer.answer_text.Goals as goal

pub returns : goal.returns
returns c = c.into_string.ensures ∙ whole_text (reply_data c.args.reply.now) c.in_ok-text.ensures c.in_ok-write_to.ensures
