use Rattle.std.{proofs.Common.◌≡◌, specs.List.list_any, specs.Prelude.not, specs.Prelude.◌&&◌, specs.Str.bytes_eq}
use Rattle.toml.specs.View.{members_view, table_view}
use Rattle.review_file_document.specs.{Document.members, Values.spells}
use Rattle.review_file_document.proofs.values.has_other.Given as goal

abbrev pub invariant-loop-other : goal.invariant-loop-other
invariant-loop-other l = list_any (λ m. not (bytes_eq m.0 l.key) && spells l.value m.0) (members (members_view l.other-iterator)) ≡ list_any (λ m. not (bytes_eq m.0 l.key) && spells l.value m.0) (members (table_view l.values))
