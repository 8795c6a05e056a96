use Rattle.review_sql_lookups.proofs.known.find_known.Goals as goal

pub returns-in-Requests-clause-told : goal.returns-in-Requests-clause-told
returns-in-Requests-clause-told c = rw c.in-Requests.is c.known_requests.ensures

pub returns-in-Room-clause-told : goal.returns-in-Room-clause-told
returns-in-Room-clause-told c = rw c.in-Room.is c.known_room.ensures
