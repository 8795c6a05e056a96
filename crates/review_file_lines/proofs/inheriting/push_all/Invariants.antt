use Rattle.std.proofs.Common.{◌≡◌, ◌++◌, drop}
use Rattle.review_file_lines.proofs.inheriting.push_all.Given as goal

abbrev pub invariant-loop-group : goal.invariant-loop-group
invariant-loop-group l = l.groups.items ++ drop l.group-index l.more ≡ l.initial.groups.items ++ l.more
