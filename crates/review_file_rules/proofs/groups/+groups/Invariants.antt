use Rattle.std.proofs.Common.{◌≡◌, ◌++◌, map, drop}
use Rattle.review_expr_terms.specs.{Grammar.trees, Views.view}
use Rattle.review_file_rules.specs.Named.{all_named}
use Rattle.review_file_rules.proofs.groups.+groups.Given as goal

abbrev pub invariant-push_all-loop-member : goal.invariant-push_all-loop-member
invariant-push_all-loop-member g l =
    map (λ n. n.now) l.found.items ++ all_named g.T.NamesGroup.group (trees (map view (drop l.member-index l.members))) ≡ map (λ n. n.now) l.fn.found.items ++ all_named g.T.NamesGroup.group (trees (map view l.members))
