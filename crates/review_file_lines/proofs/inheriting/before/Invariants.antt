use Rattle.std.proofs.Common.{◌≡◌, ◌+◌, drop}
use Rattle.review_file_lines.specs.inner.Before.{count_before}
use Rattle.review_file_lines.proofs.inheriting.before.Given as goal

abbrev pub invariant-loop-thing : goal.invariant-loop-thing
invariant-loop-thing g l = (l.count ≡ l.thing-index) × (l.count + count_before g.N.Named.name_of l.name (drop l.thing-index l.things) ≡ count_before g.N.Named.name_of l.name l.things)
