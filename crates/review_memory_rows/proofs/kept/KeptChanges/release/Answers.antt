use Rattle.std.{proofs.Common.subst, proofs.Common.sym, specs.Ordering.nat_cmp}
use Rattle.review_table.specs.Rows.{is_named, HasEmptyOnly}
use Rattle.review_memory_rows.specs.Kept.{place_cmp, sent_cmp, IsFullBut}
use Rattle.review_memory_rows.proofs.kept.KeptChanges.release.Goals as goal

pub returns-clause-full : goal.returns-clause-full
returns-clause-full c = λ spare. let was = subst (IsFullBut c.args.prepared.now) (sym c.self.view_is) spare in record {
  kept = c.release.ensures.mended (subst (λ cs. HasEmptyOnly nat_cmp (is_named nat_cmp cs) c.self.inside.kept) (sym c.deref.ensures.value) was.kept);
  sent = c.release-2.ensures.mended (subst (λ cs. HasEmptyOnly sent_cmp (is_named sent_cmp cs) c.self.inside.sent) (sym c.deref-2.ensures.value) was.sent);
  placed = c.release-3.ensures.mended (subst (λ cs. HasEmptyOnly place_cmp (is_named place_cmp cs) c.self.inside.placed) (sym c.deref-3.ensures.value) was.placed);
}
