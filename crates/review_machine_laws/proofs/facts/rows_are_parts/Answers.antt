use Rattle.review_machine_laws.proofs.Shown.{links_made, part}
use Rattle.review_machine_laws.proofs.facts.rows_are_parts.Goals as goal

pub returns-clause-part : goal.returns-clause-part
returns-clause-part c = part

pub returns-clause-links : goal.returns-clause-links
returns-clause-links c = links_made
