use Rattle.std.proofs.Common.{◌≡◌, ◌++◌, drop}
use Rattle.review_machine_rows.specs.Steps.{caller_in}
use Rattle.review_machine_needs.proofs.files.push_caller.Given as goal

abbrev pub invariant-loop-group : goal.invariant-loop-group
invariant-loop-group l = l.wants.items ++ caller_in l.caller (drop l.group-index l.groups) ≡ l.initial.wants.items ++ caller_in l.caller l.groups
