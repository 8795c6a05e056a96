use Rattle.std.proofs.Common.{◌≡◌, ◌++◌, drop, map}
use Rattle.{review_core_rules.specs.Facts.stands, review_core_standing.specs.Grouped.grouped}
use Rattle.review_core_standing.proofs.standing.all_standing.Given as goal

abbrev pub invariant-loop-requirement : goal.invariant-loop-requirement
invariant-loop-requirement l = l.shown.items ++ map (stands (grouped l.change.facts.now l.change.groups.now)) (drop l.requirement-index l.requirements) ≡ map (stands (grouped l.change.facts.now l.change.groups.now)) l.requirements
