use Rattle.std.proofs.Common.{◌≡◌, option_copied}
use Rattle.review_machine_rows.specs.{Lines.most_depth, Steps.line_steps, Steps.next_of}
use Rattle.review_machine_needs.proofs.lines.line_wants.Given as goal

-- what is left of the rest of the line is what is left of the line
abbrev pub invariant-loop-left : goal.invariant-loop-left
invariant-loop-left l = next_of l.rows (line_steps l.rows l.left (option_copied l.project)) ≡ next_of l.rows (line_steps l.rows most_depth (option_copied l.fn.first))

abbrev pub decreases-loop-left : goal.decreases-loop-left
decreases-loop-left l = l.left
