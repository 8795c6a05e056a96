use Rattle.clap.specs.Words.{with_subcommand}
use Rattle.review_desk_work.specs.CommandLine.{init, migrate, top}
use Rattle.review_desk_work.proofs.command.making_command.Goals as goal

pub returns : goal.returns
returns c = c.with_command.ensures (with_subcommand top init.top) migrate
    (c.with_command-with_init.ensures top init c.top_command.ensures c.command_on_file.ensures) c.command_on_file-2.ensures
