use Rattle.{std.proofs.Common.subst, std.specs.Prelude.codes, clap.specs.Words.new_app, clap.specs.Words.with_rule}
use Rattle.review_desk_work.specs.CommandLine.{Makes, file, port}
use Rattle.review_desk_work.proofs.command.serve_command.Goals as goal

pub returns : goal.returns
returns c =
    let on_file = with_rule (new_app (codes "serve")) file in
    let first : Makes (with_rule on_file port) c.with_arg-with_port.result =
    subst (λ r. Makes (with_rule on_file r) c.with_arg-with_port.result) c.port_arg.ensures.rule
    (c.with_arg-with_port.ensures c.port_arg.ensures.local on_file c.command_on_file-with_file.ensures) in
    subst (λ r. Makes (with_rule (with_rule on_file port) r) c.with_arg.result) c.count_arg.ensures.rule
    (c.with_arg.ensures c.count_arg.ensures.local (with_rule on_file port) first)
