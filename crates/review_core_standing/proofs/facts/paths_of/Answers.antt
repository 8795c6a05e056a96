use Rattle.std.proofs.Common.{◌∙◌, [], sym, ap}
use Rattle.{std.specs.Option.option_copied, review_core_standing.proofs.Made.last_of_paths}
use Rattle.review_core_standing.proofs.facts.paths_of.Goals as goal

pub returns-in_ok-copy-in-Some : goal.returns-in_ok-copy-in-Some
returns-in_ok-copy-in-Some c = c.in_ok-copy-in-Some.ensures ∙ sym (last_of_paths [] c.args.patches.now c.in-Some.patch.now (sym c.last.ensures.value ∙ ap option_copied c.in-Some.is))
