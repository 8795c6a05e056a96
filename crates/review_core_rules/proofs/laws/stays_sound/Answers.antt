use Rattle.review_core_rules.proofs.Stays.{stays}
use Rattle.review_core_rules.proofs.laws.stays_sound.Goals as goal

pub returns : goal.returns
returns c = stays
