use Rattle.{std.proofs.Common.◌≡◌, std.proofs.Common.drop, std.specs.List.list_any, toml.specs.View.items_view}
use Rattle.review_file_document.specs.{Document.values, Keys.is_no_integer}
use Rattle.review_file_document.proofs.keys.lists_no_integer.Given as goal

abbrev pub invariant-loop-value : goal.invariant-loop-value
invariant-loop-value l = list_any is_no_integer (values (items_view (drop l.value-index l.array.items))) ≡ list_any is_no_integer (values (items_view l.array.items))
