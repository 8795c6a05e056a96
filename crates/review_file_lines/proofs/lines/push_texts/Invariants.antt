use Rattle.std.proofs.Common.{◌≡◌, ◌++◌, drop}
use Rattle.review_file_lines.proofs.lines.push_texts.Given as goal

abbrev pub invariant-loop-text : goal.invariant-loop-text
invariant-loop-text l = l.texts.items ++ drop l.text-index l.more ≡ l.initial.texts.items ++ l.more
