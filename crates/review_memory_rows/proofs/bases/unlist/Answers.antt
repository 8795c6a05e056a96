use Rattle.std.specs.BTreeMap.{is_at}
use Rattle.review_memory_rows.{proofs.Based.none_spare, specs.Bases.commit_cmp}
use Rattle.review_memory_rows.proofs.bases.unlist.Goals as goal

pub returns-then-not-changes-clause-full : goal.returns-then-not-changes-clause-full
returns-then-not-changes-clause-full c = λ full. c.remove.ensures.mended (none_spare commit_cmp (is_at (commit_cmp c.args.changes.now.listed)) c.args.commits.now full)
