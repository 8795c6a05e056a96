use Rattle.std.proofs.Common.{◌≡◌, drop}
use Rattle.{std.specs.List.list_any, review_machine_rows.specs.Desks.in_rows}
use Rattle.review_machine_changes.proofs.facts.is_in_any.Given as goal

abbrev pub invariant-loop-group : goal.invariant-loop-group
invariant-loop-group l = list_any (in_rows l.rows l.account) (drop l.group-index l.groups) ≡ list_any (in_rows l.rows l.account) l.groups
