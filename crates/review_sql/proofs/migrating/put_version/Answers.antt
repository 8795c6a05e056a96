use Rattle.review_sql_tables.proofs.Sequences.{next}
use Rattle.review_sql.proofs.migrating.put_version.Goals as goal

pub returns-clause-ran : goal.returns-clause-ran
returns-clause-ran g c =
    next _ _ _ _ _ _ c.rewrite-2.result c.in_ok-rewrite.ensures.ran c.rewrite-2.ensures.ran
