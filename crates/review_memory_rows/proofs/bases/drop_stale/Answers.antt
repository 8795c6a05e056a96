use Rattle.std.specs.BTreeMap.{is_at}
use Rattle.review_memory_rows.{proofs.Based.none_spare, specs.Bases.commit_cmp}
use Rattle.review_memory_rows.proofs.bases.drop_stale.Goals as goal

pub returns-then-ne-clause-full : goal.returns-then-ne-clause-full
returns-then-ne-clause-full c = λ full. c.remove.ensures.mended (none_spare commit_cmp (is_at (commit_cmp c.in-Some.key)) c.args.commits.now full)
