use Rattle.std.{proofs.Common.◌≡◌, proofs.Common.◌++◌, proofs.Common.drop, proofs.Common.map, specs.Map.Iter.deref_pair}
use Rattle.review_core_tables.specs.Copies.{copies_by, copied_rows, lost_rows, with_groups}
use Rattle.review_core_tables.proofs.copying.part.Given as goal

abbrev pub invariant-loop-key : goal.invariant-loop-key
invariant-loop-key l =
    (copies_by l.conditions.file.now (with_groups l.facts l.groups) ≡ copies_by l.conditions.file.now (with_groups l.fn.facts l.groups))
    × (l.parted.copied.items ++ copied_rows (copies_by l.conditions.file.now (with_groups l.fn.facts l.groups)) l.patch l.next (map deref_pair (drop l.key-index l.rows)) ≡ copied_rows (copies_by l.conditions.file.now (with_groups l.fn.facts l.groups)) l.patch l.next (map deref_pair l.rows))
    × (l.parted.lost.items ++ lost_rows (copies_by l.conditions.file.now (with_groups l.fn.facts l.groups)) l.patch (map deref_pair (drop l.key-index l.rows)) ≡ lost_rows (copies_by l.conditions.file.now (with_groups l.fn.facts l.groups)) l.patch (map deref_pair l.rows))
