use Rattle.{std.proofs.Common.◌≡◌, std.specs.List.list_any, std.specs.Prelude.is_none, toml.specs.Data.get}
use Rattle.{toml.specs.View.members_view, toml.specs.View.table_view, review_file_document.specs.Document.members}
use Rattle.review_file_document.proofs.keys.some_lacks.Given as goal

abbrev pub invariant-loop-part : goal.invariant-loop-part
invariant-loop-part l = list_any (λ m. is_none (get l.key m.1)) (members (members_view l.part-iterator)) ≡ list_any (λ m. is_none (get l.key m.1)) (members (table_view l.section))
