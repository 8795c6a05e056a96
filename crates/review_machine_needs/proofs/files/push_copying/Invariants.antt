use Rattle.std.proofs.Common.{◌≡◌, ◌++◌, map, drop}
use Rattle.review_file_rules.specs.Named.{copying_groups}
use Rattle.review_machine_rows.specs.declared.rows.Want.TheVariants as want
use Rattle.review_machine_needs.proofs.files.push_copying.Given as goal

abbrev pub invariant-loop-label : goal.invariant-loop-label
invariant-loop-label l = l.wants.items ++ map want.Group (copying_groups (drop l.label-index l.labels)) ≡ l.initial.wants.items ++ map want.Group (copying_groups l.labels)
