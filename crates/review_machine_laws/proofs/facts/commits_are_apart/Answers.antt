use Rattle.review_machine_laws.proofs.Patches.{commits_apart, sent_no_base}
use Rattle.review_machine_laws.proofs.facts.commits_are_apart.Goals as goal

pub returns-clause-apart : goal.returns-clause-apart
returns-clause-apart c = commits_apart

pub returns-clause-no_base : goal.returns-clause-no_base
returns-clause-no_base c = sent_no_base
