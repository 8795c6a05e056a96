use Rattle.std.proofs.Common.{◌≡◌, ℕ, Some, map}
use Rattle.{std.specs.Map.Iter.deref_pair, review_table.specs.Rows.row_in}
use Rattle.review_memory_rows.specs.Bases.{base_at, commit_cmp}
use Rattle.review_memory_rows.proofs.bases.Branches.has.Given as goal

abbrev pub invariant-loop-key : goal.invariant-loop-key
invariant-loop-key l =
    (n : ℕ) → base_at l.self.bases l.base.project l.base.branch n ≡ Some l.base.commit →
    row_in commit_cmp (map deref_pair l.key-iterator.rest.items) (record { project = l.base.project; branch = l.base.branch; commit = l.base.commit; place = n }) ≡ Some tt
