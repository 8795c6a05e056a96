use Rattle.std.proofs.Common.{sym, subst}
use Rattle.review_machine_rows.proofs.Common.{HasEmptyOnly, branch_cmp, is_named, nat_cmp, slice_cmp}
use Rattle.review_memory_rows.proofs.bases.release.Goals as goal

pub returns-clause-full : goal.returns-clause-full
returns-clause-full c = λ bases commits spare. record {
  bases_full = spare.bases_full;
  commits_full = spare.commits_full;
  lasts_full = c.release.ensures.mended (subst (λ cs. HasEmptyOnly branch_cmp (is_named branch_cmp cs) c.args.lasts.now) (sym c.deref.ensures.value) spare.lasts_spare);
  totals_full = c.release-2.ensures.mended (subst (λ cs. HasEmptyOnly (slice_cmp nat_cmp) (is_named (slice_cmp nat_cmp) cs) c.args.totals.now) (sym c.deref-2.ensures.value) spare.totals_spare);
}
