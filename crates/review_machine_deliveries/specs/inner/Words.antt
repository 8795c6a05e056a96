-- Words that only proofs and private clauses use.
use Rattle.std.specs.Prelude.{List, Result, Ok, Err, ℕ, ◌≡◌, ◌⊎◌}
use Rattle.review_words.specs.Texts.{reply_text, IsStored}
use Rattle.review_words.specs.declared.reply.NotTaken.{NotTaken as Cause, TheVariants.Memory, TheVariants.Damaged}
use Rattle.review_words.specs.declared.reply.Reply.{Reply, TheVariants.NotTaken, TheVariants.IdentityReused}
use Rattle.review_machine_rows.specs.Rows.{AnswerRow}

-- what is told of what was taken, or why it wasn't
abbrev pub reply_of : Result Reply Cause → Reply
reply_of (Ok reply) = reply
reply_of (Err cause) = NotTaken cause

-- what is told of a stored request, from the content that came
abbrev pub IsToldAgain : AnswerRow → List ℕ → Result Reply Cause → Type 0
IsToldAgain row content (Ok reply) =
    ((row.content ≡ content) × IsStored reply × (reply_text reply ≡ row.reply)) ⊎ ((row.content ≡ content → ⊥) × (reply ≡ IdentityReused))
IsToldAgain row content (Err Memory) = Unit {0}
IsToldAgain row content (Err Damaged) = (reply : Reply) → IsStored reply → reply_text reply ≡ row.reply → ⊥
IsToldAgain row content (Err _) = ⊥
