use Rattle.std.proofs.Common.{sym, ap, ◌∙◌, option_and_then, option_copied}
use Rattle.review_machine_rows.specs.Steps.{line_steps, next_of}
use Rattle.review_machine_needs.proofs.Going.{line_goes_on, no_length, no_line}
use Rattle.review_machine_needs.proofs.lines.line_wants.Goals as goal

pub returns-in_default : goal.returns-in_default
returns-in_default c =
    c.new.ensures.items ∙ (sym (no_line c.args.rows.now c.loop-left.left)
    ∙ (ap (λ p. next_of c.args.rows.now (line_steps c.args.rows.now c.loop-left.left (option_copied p))) (sym c.in_default.is) ∙ c.loop-left.invariant))

pub loop-left-preserved : goal.loop-left-preserved
loop-left-preserved c =
    let rows = c.args.rows.now in
    let left = c.loop-left.left in
    let parent = option_copied c.parent_in-project.result in
    sym (line_goes_on rows left c.in-Some.name.now c.in_ok-copy.field-0 parent c.in_ok-copy.ensures c.loop-left-test.true (sym c.knows.ensures ∙ c.if-not-knows.false)
    (c.parent_in-project.ensures ∙ ap (option_and_then (λ f. f.parent)) c.file.ensures))
    ∙ (ap (λ p. next_of rows (line_steps rows left (option_copied p))) (sym c.in-Some.is) ∙ c.loop-left.invariant)

pub returns : goal.returns
returns c = c.new-2.ensures.items ∙ (sym (no_length c.args.rows.now c.loop-left.left (option_copied c.loop-left.project) c.loop-left-test.false) ∙ c.loop-left.invariant)
