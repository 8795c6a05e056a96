use Rattle.review_sql_records.proofs.ReadAlike.{answer_moved, answers_keyed, answers_of_others}
use Rattle.review_sql_records.proofs.moved.moved_answers_read_alike.Goals as goal

pub returns-clause-stored : goal.returns-clause-stored
returns-clause-stored c = λ old new moved keyed. answer_moved old new moved keyed

pub returns-clause-others : goal.returns-clause-others
returns-clause-others c = λ old new moved. answers_of_others old new moved

pub returns-clause-keyed : goal.returns-clause-keyed
returns-clause-keyed c = λ old new moved keyed. answers_keyed old new moved keyed
