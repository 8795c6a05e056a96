use Rattle.{std.proofs.Common.◌≡◌, std.proofs.Common.drop, review_core_tables.specs.Copies.has_lost}
use Rattle.review_core_tables.proofs.rules.has_lost.Given as goal

abbrev pub invariant-loop-key : goal.invariant-loop-key
invariant-loop-key l = has_lost (drop l.key-index l.lost) l.account l.label ≡ has_lost l.lost l.account l.label
