use Rattle.std.proofs.Common.{◌≡◌, ◌++◌, map, drop}
use Rattle.review_machine_rows.specs.declared.rows.Want.TheVariants as want
use Rattle.review_machine_needs.proofs.files.push_group_names.Given as goal

abbrev pub invariant-loop-group : goal.invariant-loop-group
invariant-loop-group l = l.wants.items ++ map want.Group (map (λ g. g.now) (drop l.group-index l.groups)) ≡ l.initial.wants.items ++ map want.Group (map (λ g. g.now) l.groups)
