use Rattle.std.proofs.Common.{◌∙◌, ap, sym, unwrap_or, length}
use Rattle.{review_names.specs.Forms.is_within, review_machine_changes.proofs.Made.within_itself}
use Rattle.review_machine_changes.proofs.reviewing.has_reviewed.Goals as goal

pub returns-in-None : goal.returns-in-None
returns-in-None c =
    sym (ap (λ p. is_within (length c.args.change.now.patches.items) (unwrap_or p (length c.args.change.now.patches.items))) c.in-None.is ∙ within_itself _ (length c.args.change.now.patches.items) c.requires)
