use Rattle.{std.proofs.Common.◌∙◌, std.proofs.Common.ap, std.proofs.Common.map, review_core_rules.specs.Facts.stands}
use Rattle.{review_core_tables.specs.Copies.group_list, review_core_standing.specs.Grouped.grouped}
use Rattle.review_core_standing.proofs.standing.statuses.Goals as goal

pub returns : goal.returns
returns c = record {
  facts = grouped c.in_ok-facts.facts c.args.groups.now;
  are_facts = c.in_ok-facts.ensures (group_list c.args.groups.now);
  each = c.from_vec.ensures ∙ (c.in_ok-shown.ensures ∙ ap (map (stands (grouped c.in_ok-facts.facts c.args.groups.now))) c.requirements.ensures);
}
