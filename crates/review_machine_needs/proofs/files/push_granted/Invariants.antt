use Rattle.std.proofs.Common.{◌≡◌, ◌++◌, drop}
use Rattle.review_machine_rows.specs.Steps.{caller_in, granted_groups}
use Rattle.review_machine_needs.proofs.files.push_granted.Given as goal

abbrev pub invariant-loop-one : goal.invariant-loop-one
invariant-loop-one l = l.wants.items ++ caller_in l.caller (granted_groups l.file (drop l.one-index l.given)) ≡ l.initial.wants.items ++ caller_in l.caller (granted_groups l.file l.given)
