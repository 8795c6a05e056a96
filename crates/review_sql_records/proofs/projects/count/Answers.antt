use Rattle.review_sql_tables.proofs.Common.{◌∙◌, length, ap, Ok, Some, projects_2, as_counted}
use Rattle.review_sql_records.proofs.Common.{look_on, all_pass}
use Rattle.review_sql_records.proofs.projects.count.Goals as goal

pub returns-clause-looks : goal.returns-clause-looks
returns-clause-looks g c =
    look_on _ _ _ _ c.in_ok-rows.rows (Ok c.read_count.result) c.in_ok-rows.ensures.looks
    (λ db h. c.read_count.ensures _ (c.deref.ensures.value ∙ h) ∙ ap (λ l. Some (as_counted (length l))) (all_pass (db projects_2.tree)))
