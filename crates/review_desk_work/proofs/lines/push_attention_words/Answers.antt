use Rattle.std.proofs.Common.{rules, ◌++◌, ◌∷◌, [], append_assoc}
use Rattle.review_names.{proofs.Numerals.decimal_numeral, specs.Numerals.numeral}
use Rattle.review_desk_work.proofs.lines.push_attention_words.Goals as goal

pub returns : goal.returns
returns c = rw (append_assoc (numeral c.args.request) (58 ∷ []) (32 ∷ (c.args.reason.now ++ 10 ∷ []))) (search (rules, decimal_numeral))
