use Rattle.std.proofs.Common.{◌≡◌, ◌++◌, map, drop}
use Rattle.review_expr_terms.specs.{Grammar.trees, Views.view}
use Rattle.review_expr_judging.specs.Postfix.{entry, postfixes}
use Rattle.review_expr_judging.proofs.compiled.+steps.Given as goal

abbrev pub invariant-push_all-loop-member : goal.invariant-push_all-loop-member
invariant-push_all-loop-member g l =
    map entry l.steps.items ++ postfixes (trees (map view (drop l.member-index l.members))) ≡ map entry l.fn.steps.items ++ postfixes (trees (map view l.members))
