use Rattle.{std.proofs.Common.subst, review_table.specs.Rows.rows_of}
use Rattle.review_memory_rows.proofs.Based.{WithRow, as_before}
use Rattle.review_memory_rows.specs.{Bases.commit_cmp, declared.keys.CommitKey.CommitKey}
use Rattle.review_memory_rows.proofs.bases.place.Goals as goal

pub returns-in-Err-clause-unlisted : goal.returns-in-Err-clause-unlisted
returns-in-Err-clause-unlisted c =
    let old = rows_of c.args.commits.now in
    let mid = rows_of c.put.new.self in
    as_before c.args.changes.now.listed c.args.changes.now.is_listed old mid (rows_of c.unlist.new.commits) c.requires
    (subst (λ (k : CommitKey). WithRow commit_cmp old k tt mid) c.in_ok-copy.ensures c.in_ok-put.ensures.ok) c.unlist.ensures.rows

pub returns-in-Err-clause-commits_full : goal.returns-in-Err-clause-commits_full
returns-in-Err-clause-commits_full c = λ full. c.unlist.ensures.full (c.put.ensures.kept full)
