use Rattle.std.proofs.Common.{◌+◌, arith}
use Rattle.{review_names.specs.Forms.most_changes, review_core_rules.proofs.Stays.within_parts}
use Rattle.review_machine_changes.proofs.creating.next_change.Goals as goal

-- a number that is within the greatest one fits
pub overflow_add-last : goal.overflow_add-last
overflow_add-last c = let w = within_parts most_changes (c.args.last + 1) c.requires in omega arith
