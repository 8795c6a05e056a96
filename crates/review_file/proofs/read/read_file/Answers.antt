use Rattle.{review_file_rules.proofs.Together.pattern_spelled, review_file.proofs.SoundLabels.sound_file}
use Rattle.review_file.proofs.read.read_file.Goals as goal

pub new-requires : goal.new-requires
new-requires c = sound_file c.args.text.now c.in-Ok.content c.in-Ok.ensures.read

pub returns-in-Err-clause-pattern : goal.returns-in-Err-clause-pattern
returns-in-Err-clause-pattern c = pattern_spelled _ _ c.in-Err.ensures.fault
