use Rattle.std.proofs.Common.{◌++◌, ◌∷◌, [], ◌∙◌, ap}
use Rattle.std.specs.Map.Iter.{deref_pair}
use Rattle.review_core_tables.proofs.Copied.{copied_next, lost_next, rows_more}
use Rattle.review_core_tables.specs.Copies.{copies_by, copied_rows, lost_rows, with_groups}
use Rattle.review_core_tables.proofs.copying.part.Goals as goal

pub loop-key-preserved : goal.loop-key-preserved
loop-key-preserved c =
    let a = c.args in
    let f = copies_by a.conditions.now.file.now (with_groups a.facts.now a.groups.now) in
    let e = c.loop-key-item.result in
    let same = c.loop-key.invariant.0 in (
      c.in_ok-part_one.ensures.same ∙ same,
      rows_more (copied_rows f a.patch a.next) (copied_next f a.patch a.next) c.loop-key.parted.copied.items c.part_one.new.parted.copied.items _ a.rows.now c.loop-key.key-index e c.loop-key-test.true c.loop-key-item.is
          (c.in_ok-part_one.ensures.copied ∙ ap (λ g. c.loop-key.parted.copied.items ++ copied_rows g a.patch a.next (deref_pair e ∷ [])) same) c.loop-key.invariant.1,
      rows_more (lost_rows f a.patch) (lost_next f a.patch) c.loop-key.parted.lost.items c.part_one.new.parted.lost.items _ a.rows.now c.loop-key.key-index e c.loop-key-test.true c.loop-key-item.is
          (c.in_ok-part_one.ensures.lost ∙ ap (λ g. c.loop-key.parted.lost.items ++ lost_rows g a.patch (deref_pair e ∷ [])) same) c.loop-key.invariant.2,
    )
