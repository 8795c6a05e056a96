use Rattle.std.proofs.Common.{◌≡◌, ◌++◌, map, drop}
use Rattle.review_expr_terms.specs.{Grammar.trees, Views.view}
use Rattle.review_expr_judging.specs.Labels.{all_labels}
use Rattle.review_expr_judging.proofs.labels.+labels.Given as goal

abbrev pub invariant-push_all-loop-member : goal.invariant-push_all-loop-member
invariant-push_all-loop-member l =
    map (λ n. n.now) l.found.items ++ all_labels (trees (map view (drop l.member-index l.members))) ≡ map (λ n. n.now) l.fn.found.items ++ all_labels (trees (map view l.members))
