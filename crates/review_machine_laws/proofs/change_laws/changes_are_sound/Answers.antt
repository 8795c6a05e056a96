use Rattle.review_machine_laws.proofs.Changes.{are_sound}
use Rattle.review_machine_laws.proofs.change_laws.changes_are_sound.Goals as goal

pub returns : goal.returns
returns c = are_sound c.begins_sound.ensures c.stays_sound.ensures
