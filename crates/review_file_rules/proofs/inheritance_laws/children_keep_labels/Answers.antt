use Rattle.review_file_rules.proofs.Known.{child_covers, label_of_both, inherited_sound}
use Rattle.review_file_rules.proofs.inheritance_laws.children_keep_labels.Goals as goal

pub returns-clause-label : goal.returns-clause-label
returns-clause-label c = λ parent own p o q. label_of_both q parent.labels own.labels p.0 o.0

pub returns-clause-sound : goal.returns-clause-sound
returns-clause-sound c = inherited_sound

pub returns-clause-covers : goal.returns-clause-covers
returns-clause-covers c = λ old new own p q r covered. child_covers old new own p.0 q.0 r.0 covered
