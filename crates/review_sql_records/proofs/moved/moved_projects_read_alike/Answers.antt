use Rattle.review_sql_records.proofs.ReadAlike.{file_moved, projects_counted, projects_keyed}
use Rattle.review_sql_records.proofs.moved.moved_projects_read_alike.Goals as goal

pub returns-clause-files : goal.returns-clause-files
returns-clause-files c = λ old new moved keyed. file_moved old new moved keyed

pub returns-clause-count : goal.returns-clause-count
returns-clause-count c = λ old new moved keyed. projects_counted old new moved keyed

pub returns-clause-named : goal.returns-clause-named
returns-clause-named c = λ old new moved keyed. projects_keyed old new moved keyed
