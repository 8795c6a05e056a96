use Rattle.std.{proofs.Common.subst, specs.Cmp.Lexicographic.slice_cmp, specs.Ordering.nat_cmp}
use Rattle.review_table.specs.Rows.{HavePlaces, HasEmptyOnly, is_named}
use Rattle.{review_machine_rows.specs.Rows.branch_cmp, review_memory_rows.proofs.Based.none_spare}
use Rattle.review_memory_rows.proofs.bases.reserve.Goals as goal

pub returns-clause-ended : goal.returns-clause-ended
returns-clause-ended c = subst (HavePlaces branch_cmp c.reserve_all.new.self) c.deref.ensures.value c.in_ok-reserve_all.ensures.ok

pub returns-clause-counted : goal.returns-clause-counted
returns-clause-counted c = subst (HavePlaces (slice_cmp nat_cmp) c.reserve_all-2.new.self) c.deref-2.ensures.value c.in_ok-reserve_all-2.ensures.ok

pub returns-in_err-reserve_all-clause-spare : goal.returns-in_err-reserve_all-clause-spare
returns-in_err-reserve_all-clause-spare c = λ bases commits full. record {
  bases_full = full.bases_full;
  commits_full = full.commits_full;
  lasts_spare = subst (λ cs. HasEmptyOnly branch_cmp (is_named branch_cmp cs) c.reserve_all.new.self) c.deref.ensures.value (c.reserve_all.ensures.only full.lasts_full);
  totals_spare = none_spare (slice_cmp nat_cmp) (is_named (slice_cmp nat_cmp) c.args.changes.now.counted.items) c.args.totals.now full.totals_full;
}

pub returns-in_err-reserve_all-2-clause-spare : goal.returns-in_err-reserve_all-2-clause-spare
returns-in_err-reserve_all-2-clause-spare c = λ bases commits full. record {
  bases_full = full.bases_full;
  commits_full = full.commits_full;
  lasts_spare = subst (λ cs. HasEmptyOnly branch_cmp (is_named branch_cmp cs) c.reserve_all.new.self) c.deref.ensures.value (c.reserve_all.ensures.only full.lasts_full);
  totals_spare = subst (λ cs. HasEmptyOnly (slice_cmp nat_cmp) (is_named (slice_cmp nat_cmp) cs) c.reserve_all-2.new.self) c.deref-2.ensures.value (c.reserve_all-2.ensures.only full.totals_full);
}

pub returns-clause-spare : goal.returns-clause-spare
returns-clause-spare c = λ bases commits full. record {
  bases_full = full.bases_full;
  commits_full = full.commits_full;
  lasts_spare = subst (λ cs. HasEmptyOnly branch_cmp (is_named branch_cmp cs) c.reserve_all.new.self) c.deref.ensures.value (c.reserve_all.ensures.only full.lasts_full);
  totals_spare = subst (λ cs. HasEmptyOnly (slice_cmp nat_cmp) (is_named (slice_cmp nat_cmp) cs) c.reserve_all-2.new.self) c.deref-2.ensures.value (c.reserve_all-2.ensures.only full.totals_full);
}
