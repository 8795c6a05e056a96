-- What is stored of a request that was decided.
use Rattle.std.specs.Prelude.{ℕ, List}
use Rattle.{review_words.specs.Texts.reply_text, review_machine_rows.specs.Rows.AnswerRow}
use Rattle.review_machine_deliveries.specs.declared.deliveries.Decided.{Decided}

-- the row of a request with its reply, where its command has this text
abbrev pub row_for : ℕ → ℕ → List ℕ → Decided → List ℕ → AnswerRow
row_for caller epoch id decided content = record { identity = record { caller = caller; epoch = epoch; id = id }; request = decided.request; content = content; reply = reply_text decided.reply }
