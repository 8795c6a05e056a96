use Rattle.{std.proofs.Common.subst, std.specs.Prelude.codes, clap.specs.Words.new_app, clap.specs.Words.with_rule}
use Rattle.review_desk_work.specs.CommandLine.{Makes, file}
use Rattle.review_desk_work.proofs.command.show_command.Goals as goal

pub returns : goal.returns
returns c =
    let on_file = with_rule (new_app (codes "show")) file in
    subst (λ r. Makes (with_rule on_file r) c.with_arg.result) c.change_arg.ensures.rule
    (c.with_arg.ensures c.change_arg.ensures.local on_file c.command_on_file-with_file.ensures)
