use Rattle.{std.proofs.Common.◌∙◌, std.proofs.Common.sym, review_file.proofs.Carried.read_as}
use Rattle.review_file_lines.proofs.texts.ReadText.read.Goals as goal

pub returns-in-Ok-clause-read : goal.returns-in-Ok-clause-read
returns-in-Ok-clause-read c = read_as c.in_ok-file.file c.as_str.result.now c.args.text.now c.as_str.ensures c.in_ok-file.ensures.read

pub invariant_of-result : goal.invariant_of-result
invariant_of-result c = read_as c.in_ok-file.file c.as_str.result.now c.in-Ok.text (c.as_str.ensures ∙ sym c.in-Ok.ensures) c.in_ok-file.ensures.read
