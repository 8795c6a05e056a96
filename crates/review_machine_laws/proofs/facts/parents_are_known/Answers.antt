use Rattle.review_machine_laws.proofs.Patches.{parents_known}
use Rattle.review_machine_laws.proofs.facts.parents_are_known.Goals as goal

pub returns : goal.returns
returns c = parents_known
