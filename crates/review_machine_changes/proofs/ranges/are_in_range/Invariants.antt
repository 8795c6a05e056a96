use Rattle.std.{proofs.Common.◌≡◌, proofs.Common.Some, proofs.Common.drop, specs.List.list_all}
use Rattle.review_machine_rows.specs.{Answer.is_in_range, Desks.facts_by}
use Rattle.review_machine_changes.proofs.ranges.are_in_range.Given as goal

abbrev pub invariant-loop-one : goal.invariant-loop-one
invariant-loop-one l = list_all (is_in_range (facts_by l.rows (Some l.file)) l.file l.account) (drop l.one-index l.given) ≡ list_all (is_in_range (facts_by l.rows (Some l.file)) l.file l.account) l.given
