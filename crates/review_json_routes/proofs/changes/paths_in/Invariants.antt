use Rattle.std.proofs.Common.{◌≡◌, ◌++◌, drop}
use Rattle.{std.specs.Prelude.option_map, serde_json.specs.View.items_view, review_json_routes.specs.Parts.paths_in}
use Rattle.review_json_routes.proofs.changes.paths_in.Given as goal

abbrev pub invariant-loop-value : goal.invariant-loop-value
invariant-loop-value l = option_map (λ more. l.paths.items ++ more) (paths_in (items_view (drop l.value-index l.list.items))) ≡ paths_in (items_view l.list.items)
