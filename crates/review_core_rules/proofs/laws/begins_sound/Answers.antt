use Rattle.review_core_rules.proofs.Stays.{begins}
use Rattle.review_core_rules.proofs.laws.begins_sound.Goals as goal

pub returns : goal.returns
returns c = begins
