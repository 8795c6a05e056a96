use Rattle.std.proofs.Common.{◌∙◌, sym, ap}
use Rattle.{std.specs.Option.option_copied, review_machine_submits.proofs.Loaded.none_last}
use Rattle.review_machine_submits.proofs.showing.last_patch.Goals as goal

pub unreachable-requires : goal.unreachable-requires
unreachable-requires c = none_last c.args.patches.now c.requires (sym c.last.ensures.value ∙ ap option_copied c.in-None.is)
