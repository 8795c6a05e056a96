use Rattle.std.proofs.Common.{◌≡◌, ◌++◌, map, take}
use Rattle.{std.specs.Map.Iter.deref_pair, review_memory_rows.specs.Answers.lower}
use Rattle.review_memory_rows.proofs.lower.push_lower.Given as goal

abbrev pub invariant-loop-row : goal.invariant-loop-row
invariant-loop-row l = l.keys.items ≡ l.fn.keys.items ++ lower l.least (map deref_pair (take l.row-index l.rows))
