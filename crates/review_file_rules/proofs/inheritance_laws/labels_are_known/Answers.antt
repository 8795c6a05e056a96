use Rattle.review_file_rules.proofs.Known.{inherits_known, still_known}
use Rattle.review_file_rules.proofs.inheritance_laws.labels_are_known.Goals as goal

pub returns-clause-known : goal.returns-clause-known
returns-clause-known c = λ parent own p o above here. inherits_known parent own p.0 o.0 above here

pub returns-clause-stay : goal.returns-clause-stay
returns-clause-stay c = λ old new own p q r covered here. still_known old new own p.0 q.0 r.0 covered here
