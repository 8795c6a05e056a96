use Rattle.std.proofs.Common.{◌≡◌, ◌++◌, map}
use Rattle.review_table.specs.inner.Words.{as_edit}
use Rattle.review_table.proofs.edited.Edited.into_edits.Given as goal

abbrev pub invariant-loop-key : goal.invariant-loop-key
invariant-loop-key g l = l.edits.items ++ map as_edit l.key-iterator ≡ map as_edit l.fn.self.edits.entries
