use Rattle.std.proofs.Common.{◌∙◌, sym, ap}
use Rattle.{std.specs.Option.option_copied, review_core_standing.proofs.Made.last_sender}
use Rattle.review_core_standing.proofs.facts.last_uploader.Goals as goal

pub returns-in-Some : goal.returns-in-Some
returns-in-Some c = sym (last_sender c.args.owner c.args.patches.now c.in-Some.patch.now (sym c.last.ensures.value ∙ ap option_copied c.in-Some.is))
