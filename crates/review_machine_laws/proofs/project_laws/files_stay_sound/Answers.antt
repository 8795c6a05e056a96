use Rattle.review_machine_laws.proofs.Histories.{files_grow, labels_known, lines_end}
use Rattle.review_machine_laws.proofs.project_laws.files_stay_sound.Goals as goal

pub returns-clause-lines : goal.returns-clause-lines
returns-clause-lines c = lines_end c.one_file.ensures.trees

pub returns-clause-labels : goal.returns-clause-labels
returns-clause-labels c = files_grow c.one_file.ensures.trees

pub returns-clause-known : goal.returns-clause-known
returns-clause-known c = labels_known c.one_file.ensures.trees
