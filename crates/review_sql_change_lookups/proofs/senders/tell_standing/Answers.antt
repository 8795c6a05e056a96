use Rattle.std.proofs.Common.{refl}
use Rattle.review_sql_change_lookups.proofs.senders.tell_standing.Goals as goal

pub returns : goal.returns
returns c = λ base db is. (c.args.standing, refl, is)
