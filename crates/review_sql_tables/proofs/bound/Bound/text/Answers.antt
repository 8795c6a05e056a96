use Rattle.std.proofs.lemmas.Str.{is_utf8-from_IsUtf8}
use Rattle.review_sql_tables.proofs.bound.Bound.text.Goals as goal

pub returns-clause-read : goal.returns-clause-read
returns-clause-read c = is_utf8-from_IsUtf8 c.args.text.now c.utf8.text
