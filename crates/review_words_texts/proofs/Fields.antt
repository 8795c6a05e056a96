-- Equal texts come only from equal commands, and from equal stored replies.
use Rattle.std.proofs.Common.{◌≡◌, Some, sym, ap, ◌∙◌}
use Rattle.review_words.specs.Texts.{command_fields, content_text, reply_fields, reply_text, IsStored}
use Rattle.review_words.specs.declared.{command.Command.Command, reply.Reply.Reply}
use Rattle.review_words_texts.proofs.Commands.{command_of, command_back}
use Rattle.review_words_texts.{proofs.Cutting.text_of-injective, proofs.Told.reply_back, specs.Reading.reply_of}

pub content_text_injective : (c d : Command) → content_text c ≡ content_text d → c ≡ d
content_text_injective c d e = sym (command_back c) ∙ (ap command_of (text_of-injective (command_fields c) (command_fields d) e) ∙ command_back d)

pub reply_text_injective : (r s : Reply) → IsStored r → IsStored s → reply_text r ≡ reply_text s → r ≡ s
reply_text_injective r s a b e =
    let same : Some r ≡ Some s = sym (reply_back r a) ∙ (ap reply_of (text_of-injective (reply_fields r) (reply_fields s) e) ∙ reply_back s b) in
    cc
