use Rattle.{std.proofs.Common.◌≡◌, std.specs.List.list_any, toml.specs.View.members_view, toml.specs.View.table_view}
use Rattle.review_file_document.specs.{Document.members, Values.is_bad_key}
use Rattle.review_file_document.proofs.values.has_bad_key.Given as goal

abbrev pub invariant-loop-key : goal.invariant-loop-key
invariant-loop-key l = list_any (λ m. is_bad_key (members (table_view l.values)) m.0) (members (members_view l.key-iterator)) ≡ list_any (λ m. is_bad_key (members (table_view l.values)) m.0) (members (table_view l.values))
