use Rattle.std.proofs.Common.{◌≡◌, ◌++◌, drop, map}
use Rattle.review_table.proofs.edited.copied_keys.Given as goal

abbrev pub invariant-loop-key : goal.invariant-loop-key
invariant-loop-key g l = l.copies.items ++ map (λ k. k.now) (drop l.key-index l.keys) ≡ map (λ k. k.now) l.keys
