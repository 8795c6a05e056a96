use Rattle.std.{proofs.Common.◌≡◌, specs.List.list_any}
use Rattle.{toml.specs.View.members_view, toml.specs.View.table_view, review_file_document.specs.Document.members}
use Rattle.review_file_document.proofs.document.some_member.Given as goal

abbrev pub invariant-loop-key : goal.invariant-loop-key
invariant-loop-key g l = list_any g.T.MemberTest.is_met (members (members_view l.key-iterator)) ≡ list_any g.T.MemberTest.is_met (members (table_view l.table))
