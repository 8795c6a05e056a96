use Rattle.std.proofs.Common.{◌≡◌, ◌++◌}
use Rattle.{std.specs.Prelude.option_map, serde_json.specs.View.members_view, review_json_routes.specs.Reviews.given_in}
use Rattle.review_json_routes.proofs.votes.labels_in.Given as goal

abbrev pub invariant-loop-key : goal.invariant-loop-key
invariant-loop-key l = option_map (λ more. l.given.items ++ more) (given_in (members_view l.key-iterator)) ≡ given_in (members_view l.initial.key-iterator)
