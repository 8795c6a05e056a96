use Rattle.review_sql_lookups.proofs.known.known_room.Goals as goal

pub returns-in-Projects : goal.returns-in-Projects
returns-in-Projects c = rw c.in-Projects.is c.known_room_for_projects.ensures

pub returns-in-BasesOf : goal.returns-in-BasesOf
returns-in-BasesOf c = rw c.in-BasesOf.is c.known_room_for_bases.ensures
