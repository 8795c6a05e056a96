use Rattle.review_json_lines.proofs.Begun.{filled}
use Rattle.review_json_lines.proofs.lines.Lines.read.Goals as goal

pub returns-in-Ok-clause-kept : goal.returns-in-Ok-clause-kept
returns-in-Ok-clause-kept g c = filled _ _ _ _ c.requires.taken c.in-Ok.ensures.gave
