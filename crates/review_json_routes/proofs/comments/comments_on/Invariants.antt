use Rattle.std.{proofs.Common.◌≡◌, proofs.Common.◌++◌, proofs.Common.drop, specs.Prelude.option_map}
use Rattle.{serde_json.specs.View.items_view, review_json_routes.specs.Reviews.comments_on}
use Rattle.review_json_routes.proofs.comments.comments_on.Given as goal

abbrev pub invariant-loop-value : goal.invariant-loop-value
invariant-loop-value l = option_map (λ more. l.comments.items ++ more) (comments_on l.place (items_view (drop l.value-index l.list.items))) ≡ option_map (λ more. l.initial.comments.items ++ more) (comments_on l.place (items_view l.list.items))
