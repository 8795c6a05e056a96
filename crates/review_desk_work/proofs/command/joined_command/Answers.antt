use Rattle.{std.proofs.Common.subst, std.specs.Prelude.codes, clap.specs.Words.new_app, clap.specs.Words.with_rule}
use Rattle.review_desk_work.specs.CommandLine.{Makes, file, project}
use Rattle.review_desk_work.proofs.command.joined_command.Goals as goal

pub returns : goal.returns
returns c =
    let on_file = with_rule (new_app (codes "joined")) file in
    let first : Makes (with_rule on_file project) c.with_arg-with_project.result =
    subst (λ r. Makes (with_rule on_file r) c.with_arg-with_project.result) c.project_arg.ensures.rule
    (c.with_arg-with_project.ensures c.project_arg.ensures.local on_file c.command_on_file-with_file.ensures) in
    subst (λ r. Makes (with_rule (with_rule on_file project) r) c.with_arg.result) c.branch_arg.ensures.rule
    (c.with_arg.ensures c.branch_arg.ensures.local (with_rule on_file project) first)
