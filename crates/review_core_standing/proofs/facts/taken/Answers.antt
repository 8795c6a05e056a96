use Rattle.std.proofs.{Common.◌∙◌, lemmas.Map.Text.is_eq-slice_cmp}
use Rattle.review_core_standing.proofs.facts.taken.Goals as goal

pub returns-in-Some-clause-others : goal.returns-in-Some-clause-others
returns-in-Some-clause-others c = λ l e. c.remove.ensures.updates.2 l (is_eq-slice_cmp c.args.label.now l ∙ e)
