use Rattle.std.proofs.Common.{ap, sym, ◌∙◌}
use Rattle.review_expr_terms.{proofs.Verdicts.one_spelling, specs.Grammar.tree}
use Rattle.review_expr_terms.proofs.parser.one_tree.Goals as goal

pub returns : goal.returns
returns g c ts t u h k = sym h.4 ∙ ap tree (one_spelling h.0 k.0 (h.1 ∙ sym k.1)) ∙ k.4
