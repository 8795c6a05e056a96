use Rattle.std.{proofs.Common.◌≡◌, proofs.Common.drop, specs.List.list_any, specs.Prelude.not}
use Rattle.{toml.specs.View.items_view, review_names.specs.Names.is_word}
use Rattle.review_file_document.specs.Document.{values, text_of}
use Rattle.review_file_document.proofs.names.some_bad_group.Given as goal

abbrev pub invariant-loop-group : goal.invariant-loop-group
invariant-loop-group l = list_any (λ v. not (is_word (text_of v))) (values (items_view (drop l.group-index l.groups.items))) ≡ list_any (λ v. not (is_word (text_of v))) (values (items_view l.groups.items))
