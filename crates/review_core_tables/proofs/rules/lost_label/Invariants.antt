use Rattle.{std.proofs.Common.◌≡◌, std.proofs.Common.drop, review_core_tables.specs.Copies.lost_label}
use Rattle.review_core_tables.proofs.rules.lost_label.Given as goal

abbrev pub invariant-loop-label : goal.invariant-loop-label
invariant-loop-label l = lost_label (drop l.label-index l.labels) l.lost l.account ≡ lost_label l.labels l.lost l.account
