use Rattle.{std.proofs.Common.◌≡◌, review_memory_rows.proofs.Based.AreUpTo}
use Rattle.review_memory_rows.proofs.bases.Branches.bases_of.Given as goal

abbrev pub invariant-loop-before : goal.invariant-loop-before
invariant-loop-before l = record {
  project : l.key.project ≡ l.branch.project;
  branch : l.key.branch ≡ l.branch.branch;
  up : AreUpTo l.self.bases l.branch l.before l.bases;
}
