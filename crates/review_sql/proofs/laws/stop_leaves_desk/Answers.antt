use Rattle.review_sql_tables.proofs.OneSchema.{one_schema}
use Rattle.review_sql.proofs.Left.{makes_ours, stop_leaves_desk}
use Rattle.review_sql.proofs.laws.stop_leaves_desk.Goals as goal

pub returns-clause-desk : goal.returns-clause-desk
returns-clause-desk g c = stop_leaves_desk g.S.Store

pub returns-clause-made : goal.returns-clause-made
returns-clause-made g c = makes_ours

pub returns-clause-schema : goal.returns-clause-schema
returns-clause-schema g c = one_schema
