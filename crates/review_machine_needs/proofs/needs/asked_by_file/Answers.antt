use Rattle.std.{proofs.Common.ap, proofs.Common.rules, proofs.Common.◌∙◌, specs.Prelude.option_copied}
use Rattle.review_machine_rows.specs.Steps.{topic_of, unknown}
use Rattle.review_machine_needs.proofs.Going.{file_asked}
use Rattle.review_machine_needs.proofs.needs.asked_by_file.Goals as goal

pub returns : goal.returns
returns c = λ come. file_asked (option_copied c.args.effective) c.args.rows.now c.args.caller (topic_of c.args.matter) c.unknown-wants.result.items come (c.unknown-wants.ensures ∙ ap (unknown c.args.rows.now) c.in_ok-file_wants.ensures) (search rules)
