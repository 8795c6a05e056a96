use Rattle.review_sql_tables.proofs.{Common.◌∙◌, Common.schema_at, Made.made_in_memory, Made.decides_desk}
use Rattle.review_sql_tables.proofs.creating.is_desk.Goals as goal

pub returns : goal.returns
returns c = decides_desk c.args.version c.is_same_schema.result c.args.schema.now c.schema.result.now (c.schema.ensures.value ∙ made_in_memory (schema_at c.args.version) c.in_ok-plain.plain c.create_all.new.conn _ c.in_ok-plain.ensures.empty c.in_ok-create_all.ensures.acts) c.is_same_schema.ensures
