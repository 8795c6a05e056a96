use Rattle.{std.proofs.Common.◌≡◌, std.specs.List.list_any, toml.specs.View.members_view, toml.specs.View.table_view}
use Rattle.review_file_document.specs.{Document.members, Values.is_bad_grant}
use Rattle.review_file_document.proofs.values.some_bad_grant.Given as goal

abbrev pub invariant-loop-range : goal.invariant-loop-range
invariant-loop-range l = list_any (λ m. is_bad_grant (members (table_view l.values)) m.1) (members (members_view l.range-iterator)) ≡ list_any (λ m. is_bad_grant (members (table_view l.values)) m.1) (members (table_view l.grants))
