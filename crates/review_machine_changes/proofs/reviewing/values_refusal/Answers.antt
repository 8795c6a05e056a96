use Rattle.std.proofs.Common.{ap, option_copied}
use Rattle.{review_core_rules.specs.Seen.seen, review_machine_changes.proofs.Requested.none_given}
use Rattle.review_machine_changes.proofs.reviewing.values_refusal.Goals as goal

pub returns-in-None : goal.returns-in-None
returns-in-None c = let a = c.args in none_given a.rows.now a.caller a.review.now (seen a.change.now) (option_copied a.effective) (ap option_copied c.in-None.is) c.requires
