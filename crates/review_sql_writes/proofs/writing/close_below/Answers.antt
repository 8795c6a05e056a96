use Rattle.review_sql_tables.proofs.Sequences.{next}
use Rattle.review_sql_writes.proofs.writing.close_below.Goals as goal

pub returns-clause-ran : goal.returns-clause-ran
returns-clause-ran g c =
    next _ _ _ _ _ _ c.rewrite.result c.in_ok-remove_below.ensures.ran c.rewrite.ensures.ran
