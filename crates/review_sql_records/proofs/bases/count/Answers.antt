use Rattle.review_sql_tables.proofs.Common.{◌∙◌, Ok, bases}
use Rattle.review_sql_records.proofs.Common.{look_on}
use Rattle.review_sql_records.proofs.bases.count.Goals as goal

pub returns-clause-looks : goal.returns-clause-looks
returns-clause-looks g c =
    look_on _ _ _ _ c.in_ok-rows.rows (Ok c.read_count.result) c.in_ok-rows.ensures.looks (λ db h. c.read_count.ensures _ (c.deref.ensures.value ∙ h))
