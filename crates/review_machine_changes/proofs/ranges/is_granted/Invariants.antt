use Rattle.std.{proofs.Common.◌≡◌, proofs.Common.◌&&◌, proofs.Common.drop, specs.List.list_any}
use Rattle.{review_machine_rows.specs.Desks.in_rows, review_machine_changes.specs.inner.Done.reaches}
use Rattle.review_machine_changes.proofs.ranges.is_granted.Given as goal

abbrev pub invariant-loop-grant : goal.invariant-loop-grant
invariant-loop-grant l =
    list_any (λ g. reaches l.value g && in_rows l.rows l.account g.group) (drop l.grant-index l.grants)
    ≡ list_any (λ g. reaches l.value g && in_rows l.rows l.account g.group) l.grants
