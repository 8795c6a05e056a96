use Rattle.review_sql_tables.proofs.{Migrated.migrates_second, Sequences.follow, Sequences.settled_as}
use Rattle.review_sql_tables.specs.Versions.{Migrates}
use Rattle.review_sql_tables.specs.declared.versions.EarlierVersion.TheVariants as earlier
use Rattle.review_sql_tables.proofs.migrating.migrate_second.Goals as goal

pub returns-clause-ran : goal.returns-clause-ran
returns-clause-ran g c =
    settled_as _ (Migrates earlier.Second) _ _ _ _ (λ old new h. migrates_second old h.0 new h.1 h.2) (follow _ _ _ _ _ _ _ c.in_ok-move_answers.ensures.ran c.in_ok-run_text.ensures.makes)
