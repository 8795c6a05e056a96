use Rattle.std.{proofs.Common.◌≡◌, proofs.Common.◌++◌, proofs.Common.map, specs.Prelude.option_copied}
use Rattle.{review_machine_rows.specs.Steps.texts_in, review_machine_needs.proofs.Going.texts_from}
use Rattle.review_machine_needs.proofs.reading.line_of.Given as goal

-- the texts that were taken with those that are left are all
abbrev pub invariant-loop-left : goal.invariant-loop-left
invariant-loop-left l = map (λ p. p.text.now) l.parts.items ++ texts_from l.rows l.left (option_copied l.next) ≡ texts_in l.rows (option_copied l.fn.first)

abbrev pub decreases-loop-left : goal.decreases-loop-left
decreases-loop-left l = l.left
