use Rattle.std.proofs.Common.{◌≡◌, Some, None, false, refl, rules, subst}
use Rattle.review_sql_change_lookups.proofs.Sending.{KnowsSent, sender_told}
use Rattle.review_sql_change_lookups.proofs.senders.tell_sender.Goals as goal

pub returns-in-Some-None : goal.returns-in-Some-None
returns-in-Some-None c = λ base db found.
    let is : c.args.found ≡ Some None = search rules in
    (None, refl, sender_told base db None (subst (KnowsSent false base db) is found))
