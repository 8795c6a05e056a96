use Rattle.std.proofs.Common.{◌≡◌, ◌++◌, map, drop}
use Rattle.{std.specs.Prelude.flat_map, review_file_rules.specs.Named.groups_of_requirement}
use Rattle.review_machine_rows.specs.declared.rows.Want.TheVariants as want
use Rattle.review_machine_needs.proofs.files.push_required.Given as goal

abbrev pub invariant-loop-requirement : goal.invariant-loop-requirement
invariant-loop-requirement l = l.wants.items ++ map want.Group (flat_map groups_of_requirement (drop l.requirement-index l.requirements)) ≡ l.initial.wants.items ++ map want.Group (flat_map groups_of_requirement l.requirements)
