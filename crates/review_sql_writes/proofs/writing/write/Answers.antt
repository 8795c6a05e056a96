use Rattle.review_sql_tables.proofs.Common.{rules, ◌≡◌, [], Ok, subst, state, Inside}
use Rattle.review_sql_tables.proofs.Sequences.{next, retold}
use Rattle.review_sql_writes.{proofs.Commit.commits, specs.Commits.Commits, specs.inner.Words.SetsEdits}
use Rattle.review_sql_writes.proofs.writing.write.Goals as goal

pub returns-clause-ran : goal.returns-clause-ran
returns-clause-ran g c =
    let s1 = state g.S.Store c.write_unowned.new.tx.conn.now in
    let s2 = state g.S.Store c.write_edits.new.tx.conn.now in
    let same : c.deref.result.now ≡ c.args.delta.now.changes.items = search rules in
    let edits = subst (λ es. Inside (SetsEdits [] es) s1 s2 (Ok c.in_ok-write_edits.field-0)) same c.in_ok-write_edits.ensures.ran in
    let one = next _ _ _ s1 s2 _ _ c.in_ok-write_unowned.ensures.ran edits in
    let both = next _ _ _ _ _ _ _ one c.in_ok-put.ensures.ran in
    let three = next _ _ _ _ _ _ _ both c.in_ok-give_up.ensures.ran in
    retold _ (Commits c.args.delta.now c.args.kept.now c.args.numbers.now) _ _ c.rewrite.result (commits c.args.delta.now c.args.kept.now c.args.numbers.now) (next _ _ _ _ _ _ c.rewrite.result three c.rewrite.ensures.ran)
