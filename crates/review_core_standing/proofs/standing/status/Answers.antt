use Rattle.{review_core_tables.specs.Copies.group_list, review_core_standing.specs.Grouped.grouped}
use Rattle.review_core_standing.proofs.standing.status.Goals as goal

pub returns : goal.returns
returns c = (grouped c.in_ok-facts.facts c.args.groups.now, c.in_ok-facts.ensures (group_list c.args.groups.now), c.in_ok-status.ensures)
