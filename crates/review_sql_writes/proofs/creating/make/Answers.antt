use Rattle.review_sql_tables.proofs.Sequences.{follow, retold}
use Rattle.review_sql_writes.{proofs.Begin.makes_desk, specs.Commits.MakesDesk}
use Rattle.review_sql_writes.proofs.creating.make.Goals as goal

pub returns-clause-ran : goal.returns-clause-ran
returns-clause-ran g c =
    retold _ MakesDesk _ _ c.put_first.result makes_desk (follow _ _ _ _ _ _ c.put_first.result c.in_ok-create_tables.ensures.ran c.put_first.ensures.ran)
