use Rattle.review_sql_tables.proofs.Common.{◌≡◌, Some, false, Ok, subst, rules}
use Rattle.{review_sql_records.proofs.Common.look_on, review_sql_change_lookups.proofs.Sending.KnowsSent}
use Rattle.review_sql_change_lookups.proofs.senders.find_outside.Goals as goal

pub returns-clause-looks : goal.returns-clause-looks
returns-clause-looks g c =
    let base = c.args.base.now in
    let is : c.in_ok-found.found ≡ Some c.in-Some.sent = search rules in
    look_on (KnowsSent false base) _ _ _ c.in_ok-found.found (Ok c.tell_standing.result) c.in_ok-found.ensures.looks
    (λ db h outside. c.tell_standing.ensures base db (c.standing_outside.ensures base db outside (subst (KnowsSent false base db) is h)))
