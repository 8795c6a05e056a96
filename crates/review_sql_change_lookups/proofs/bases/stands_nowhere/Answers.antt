use Rattle.review_sql_lookups.proofs.Telling.{unbased}
use Rattle.review_sql_change_lookups.proofs.bases.stands_nowhere.Goals as goal

pub returns : goal.returns
returns c = λ db none. unbased db c.args.base.now none
