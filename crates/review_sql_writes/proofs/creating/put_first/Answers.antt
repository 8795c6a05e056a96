use Rattle.review_sql_tables.proofs.Sequences.{next}
use Rattle.review_sql_writes.proofs.creating.put_first.Goals as goal

pub returns-clause-ran : goal.returns-clause-ran
returns-clause-ran g c =
    let one = rw (c.first-first.ensures, c.in_ok-admin_name.ensures) at c.in_ok-change.ensures.ran in
    let two = rw (c.first-first.ensures, c.in_ok-administrators.ensures) at c.in_ok-change-2.ensures.ran in
    let three = rw c.first.ensures at c.in_ok-rewrite.ensures.ran in
    next _ _ _ _ _ _ c.rewrite-2.result (next _ _ _ _ _ _ _ (next _ _ _ _ _ _ _ one two) three) c.rewrite-2.ensures.ran
