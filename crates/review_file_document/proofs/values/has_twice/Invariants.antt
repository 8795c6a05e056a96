use Rattle.{std.proofs.Common.◌≡◌, std.specs.List.list_any, toml.specs.View.members_view, toml.specs.View.table_view}
use Rattle.review_file_document.specs.{Document.members, Values.has_double}
use Rattle.review_file_document.proofs.values.has_twice.Given as goal

abbrev pub invariant-loop-key : goal.invariant-loop-key
invariant-loop-key l = list_any (λ m. has_double (members (table_view l.values)) m.0) (members (members_view l.key-iterator)) ≡ list_any (λ m. has_double (members (table_view l.values)) m.0) (members (table_view l.values))
