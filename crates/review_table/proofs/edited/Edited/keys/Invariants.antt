use Rattle.std.proofs.Common.{◌≡◌, ◌++◌, map}
use Rattle.{std.specs.Map.keys_of, review_table.specs.Rows.rows_of}
use Rattle.review_table.proofs.edited.Edited.keys.Given as goal

abbrev pub invariant-loop-key : goal.invariant-loop-key
invariant-loop-key g l = map (λ k. k.now) l.keys.items ++ keys_of (rows_of l.key-iterator) ≡ keys_of (rows_of l.self.rows.now)

abbrev pub invariant-loop-key-2 : goal.invariant-loop-key-2
invariant-loop-key-2 g l = map (λ k. k.now) l.keys.items ++ keys_of l.key-iterator ≡ keys_of (rows_of l.self.rows.now) ++ keys_of l.self.edits.entries
