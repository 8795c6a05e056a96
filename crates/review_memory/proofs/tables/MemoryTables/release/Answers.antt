use Rattle.std.proofs.Common.{sym, subst}
use Rattle.review_machine_rows.proofs.Common.{HasEmptyOnly, is_named, member_cmp, nat_cmp, rows_of, slice_cmp}
use Rattle.review_memory.proofs.tables.MemoryTables.release.Goals as goal

pub returns-clause-same : goal.returns-clause-same
returns-clause-same c = λ i. record {
  accounts = c.release.ensures.same i;
  members = c.release-2.ensures.same i;
  files = c.release-3.ensures.same i;
  branches = c.args.self.now.branches;
  changes = c.release-4.ensures.kept i;
  projects = c.args.self.now.projects;
  answers = rows_of c.args.self.now.answers;
  least = c.args.self.now.least;
  requests = c.args.self.now.requests;
}

pub returns-clause-filled : goal.returns-clause-filled
returns-clause-filled c = λ only. record {
  accounts = c.release.ensures.mended (subst (λ cs. HasEmptyOnly nat_cmp (is_named nat_cmp cs) c.args.self.now.accounts) (sym c.deref.ensures.value) only.accounts);
  names = only.names;
  members = c.release-2.ensures.mended (subst (λ cs. HasEmptyOnly member_cmp (is_named member_cmp cs) c.args.self.now.members) (sym c.deref-2.ensures.value) only.members);
  files = c.release-3.ensures.mended (subst (λ cs. HasEmptyOnly (slice_cmp nat_cmp) (is_named (slice_cmp nat_cmp) cs) c.args.self.now.files) (sym c.deref-3.ensures.value) only.files);
  changes = c.release-4.ensures.full only.edits;
  answers = only.answers;
}
