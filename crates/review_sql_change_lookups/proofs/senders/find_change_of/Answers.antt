use Rattle.std.proofs.Common.{false, Ok}
use Rattle.{review_sql_tables.proofs.Found.look_on, review_sql_change_lookups.proofs.Sending.KnowsSent}
use Rattle.review_sql_change_lookups.proofs.senders.find_change_of.Goals as goal

pub returns-clause-looks : goal.returns-clause-looks
returns-clause-looks g c =
    look_on (KnowsSent false c.args.base.now) _ _ _ c.in_ok-found.found (Ok c.tell_sender.result) c.in_ok-found.ensures.looks (λ db h. c.tell_sender.ensures c.args.base.now db h)
