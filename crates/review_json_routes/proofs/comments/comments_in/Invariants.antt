use Rattle.std.{proofs.Common.◌≡◌, proofs.Common.◌++◌, specs.Prelude.option_map}
use Rattle.{serde_json.specs.View.members_view, review_json_routes.specs.Reviews.comments_from}
use Rattle.review_json_routes.proofs.comments.comments_in.Given as goal

abbrev pub invariant-loop-key : goal.invariant-loop-key
invariant-loop-key l = option_map (λ more. l.comments.items ++ more) (comments_from (members_view l.key-iterator)) ≡ comments_from (members_view l.initial.key-iterator)
