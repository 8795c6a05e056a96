use Rattle.{std.proofs.Common.None, std.proofs.Common.refl, review_sql_lookups.proofs.Telling.unheld}
use Rattle.review_sql_lookups.proofs.people.no_holder.Goals as goal

pub returns : goal.returns
returns c = λ name db none. (None, refl, unheld db name none)
