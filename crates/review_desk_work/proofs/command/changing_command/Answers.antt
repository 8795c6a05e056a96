use Rattle.clap.specs.Words.{with_subcommand}
use Rattle.review_desk_work.specs.CommandLine.{apply, making, serve}
use Rattle.review_desk_work.proofs.command.changing_command.Goals as goal

pub returns : goal.returns
returns c = c.with_command.ensures (with_subcommand making apply.top) serve
    (c.with_command-with_apply.ensures making apply c.making_command.ensures c.command_on_file.ensures) c.serve_command.ensures
