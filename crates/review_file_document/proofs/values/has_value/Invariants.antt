use Rattle.{std.proofs.Common.◌≡◌, toml.specs.View.members_view, toml.specs.View.table_view}
use Rattle.review_file_document.specs.{Document.members, Values.has_value}
use Rattle.review_file_document.proofs.values.has_value.Given as goal

abbrev pub invariant-loop-key : goal.invariant-loop-key
invariant-loop-key l = has_value l.value (members (members_view l.key-iterator)) ≡ has_value l.value (members (table_view l.values))
