use Rattle.std.proofs.Common.{◌≡◌, Some, None, rules}
use Rattle.review_sql_change_lookups.proofs.Sending.{stands_outside, stands_nowhere}
use Rattle.review_sql_change_lookups.proofs.senders.standing_outside.Goals as goal

pub returns-in-Some : goal.returns-in-Some
returns-in-Some c = λ base db outside sent.
    let some : c.args.sent ≡ Some c.in-Some.sent = search rules in
    stands_outside base db outside c.args.sent sent c.in-Some.sent some

pub returns-in-None : goal.returns-in-None
returns-in-None c = λ base db outside sent.
    let none : c.args.sent ≡ None = search rules in
    stands_nowhere base db outside c.args.sent sent none
