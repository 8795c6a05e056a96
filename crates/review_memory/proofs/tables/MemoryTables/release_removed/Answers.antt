use Rattle.std.proofs.Common.{subst}
use Rattle.review_machine_rows.proofs.Common.{HasEmptyOnly, member_cmp, nat_cmp, rows_of, slice_cmp}
use Rattle.review_memory.{proofs.Lower.file_stays, specs.Desk.is_removed}
use Rattle.review_memory.proofs.tables.MemoryTables.release_removed.Goals as goal

pub returns-clause-same : goal.returns-clause-same
returns-clause-same c = λ i. record {
  accounts = c.release_removed.ensures.same i;
  members = c.release_removed-2.ensures.same i;
  files = rows_of c.args.self.now.files;
  branches = c.args.self.now.branches;
  changes = rows_of c.args.self.now.changes.kept;
  projects = c.args.self.now.projects;
  answers = rows_of c.args.self.now.answers;
  least = c.args.self.now.least;
  requests = c.args.self.now.requests;
}

pub returns-clause-filled : goal.returns-clause-filled
returns-clause-filled c = λ file changes are only. record {
  accounts = c.release_removed.ensures.filled (subst (λ cs. HasEmptyOnly nat_cmp (is_removed nat_cmp cs) c.args.self.now.accounts) are.accounts only.accounts);
  names = only.names;
  members = c.release_removed-2.ensures.filled (subst (λ cs. HasEmptyOnly member_cmp (is_removed member_cmp cs) c.args.self.now.members) are.members only.members);
  files = file_stays file c.args.self.now.files (subst (λ cs. HasEmptyOnly (slice_cmp nat_cmp) (is_removed (slice_cmp nat_cmp) cs) c.args.self.now.files) are.files only.files);
  changes = only.edits;
  answers = only.answers;
}
