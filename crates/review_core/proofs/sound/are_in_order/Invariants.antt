use Rattle.{std.proofs.Common.◌≡◌, std.proofs.Common.drop, review_core_rules.specs.Sound.are_in_order}
use Rattle.review_core.proofs.sound.are_in_order.Given as goal

abbrev pub invariant-loop-before : goal.invariant-loop-before
invariant-loop-before l = are_in_order l.current l.before (drop l.before l.comments) ≡ are_in_order l.current 0 l.comments
