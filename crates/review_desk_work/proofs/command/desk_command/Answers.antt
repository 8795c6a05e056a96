use Rattle.clap.specs.Words.{with_subcommand}
use Rattle.review_desk_work.specs.CommandLine.{changing, joined, show}
use Rattle.review_desk_work.proofs.command.desk_command.Goals as goal

pub returns : goal.returns
returns c = c.with_command.ensures (with_subcommand changing show.top) joined
    (c.with_command-with_show.ensures changing show c.changing_command.ensures c.show_command.ensures) c.joined_command.ensures
