use Rattle.review_sql_change_lookups.proofs.Reviewing.{fresh, whole_after}
use Rattle.review_sql_change_lookups.proofs.reviews.last_beside.Goals as goal

pub returns-in-Found-clause-told : goal.returns-in-Found-clause-told
returns-in-Found-clause-told c = λ number db great sees. c.tell_last_change.ensures db great

pub returns-in-Found-clause-fresh : goal.returns-in-Found-clause-fresh
returns-in-Found-clause-fresh c = λ number db great is sees. fresh db c.tell_last_change.result (whole_after db c.args.found number c.in-Found.field-0 great is (rw c.in-Found.is at sees))
