use Rattle.review_sql_tables.proofs.Common.{◌≡◌, true, subst, and_from, is_utf8}
use Rattle.review_sql_records.proofs.projects.ProjectsRecord.bind_row.Goals as goal

pub returns-clause-good : goal.returns-clause-good
returns-clause-good c = and_from _ _ (subst (λ t. is_utf8 t ≡ true) c.as_str-2.ensures c.text-values.ensures.read) c.parent_text.ensures.good
