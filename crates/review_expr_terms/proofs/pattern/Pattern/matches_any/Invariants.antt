use Rattle.std.{proofs.Common.◌≡◌, proofs.Common.drop, specs.List.list_any}
use Rattle.{regex.specs.Strings.matcher_pattern, review_expr_terms.specs.Patterns.matches_whole}
use Rattle.review_expr_terms.proofs.pattern.Pattern.matches_any.Given as goal

abbrev pub invariant-loop-path : goal.invariant-loop-path
invariant-loop-path l = record {
  same : matcher_pattern l.matcher ≡ matcher_pattern l.initial.matcher;
  left : list_any (matches_whole l.self) (drop l.path-index l.paths) ≡ list_any (matches_whole l.self) l.paths;
}
