use Rattle.review_sql_tables.proofs.{Migrated.migrates_first, Sequences.follow, Sequences.retold}
use Rattle.review_sql_tables.specs.Versions.{Migrates}
use Rattle.review_sql_tables.specs.declared.versions.EarlierVersion.TheVariants as earlier
use Rattle.review_sql_tables.proofs.migrating.migrate_first.Goals as goal

pub returns-clause-ran : goal.returns-clause-ran
returns-clause-ran g c =
    retold _ (Migrates earlier.First) _ _ c.migrate_second.result (λ old new h. migrates_first old h.0 new h.1 h.2) (follow _ _ _ _ _ _ _ c.in_ok-move_projects.ensures.ran c.migrate_second.ensures.ran)
