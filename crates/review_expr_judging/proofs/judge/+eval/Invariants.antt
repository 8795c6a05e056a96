use Rattle.std.proofs.Common.{◌≡◌, map, drop}
use Rattle.review_expr_terms.specs.{Grammar.trees, Views.view}
use Rattle.review_expr_judging.specs.Holds.{all_hold, any_holds}
use Rattle.review_expr_judging.proofs.judge.+eval.Given as goal

abbrev pub invariant-all_hold-loop-member : goal.invariant-all_hold-loop-member
invariant-all_hold-loop-member g l =
    all_hold (g.W.Judged.is_held l.facts) (trees (map view (drop l.member-index l.members))) ≡ all_hold (g.W.Judged.is_held l.facts) (trees (map view l.members))

abbrev pub invariant-any_holds-loop-member : goal.invariant-any_holds-loop-member
invariant-any_holds-loop-member g l =
    any_holds (g.W.Judged.is_held l.facts) (trees (map view (drop l.member-index l.members))) ≡ any_holds (g.W.Judged.is_held l.facts) (trees (map view l.members))
