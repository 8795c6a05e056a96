use Rattle.std.proofs.Common.{◌≡◌, ◌++◌, drop, map}
use Rattle.{std.specs.List.filter, review_core_tables.specs.inner.Words.is_of}
use Rattle.review_core_tables.proofs.votes.keys_of.Given as goal

abbrev pub invariant-loop-key : goal.invariant-loop-key
invariant-loop-key l = l.keys.items ++ filter (is_of l.patch l.account) (map (λ k. k.now) (drop l.key-index l.key-items)) ≡ filter (is_of l.patch l.account) (map (λ k. k.now) l.key-items)
