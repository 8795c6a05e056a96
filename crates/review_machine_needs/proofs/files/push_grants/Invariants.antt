use Rattle.std.proofs.Common.{◌≡◌, ◌++◌, map, drop}
use Rattle.review_machine_rows.specs.Steps.{caller_in}
use Rattle.review_machine_needs.proofs.files.push_grants.Given as goal

abbrev pub invariant-loop-grant : goal.invariant-loop-grant
invariant-loop-grant l = l.wants.items ++ caller_in l.caller (map (λ g. g.group) (drop l.grant-index l.grants)) ≡ l.initial.wants.items ++ caller_in l.caller (map (λ g. g.group) l.grants)
