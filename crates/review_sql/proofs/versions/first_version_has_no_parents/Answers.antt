use Rattle.review_sql.proofs.NoParents.{no_parents}
use Rattle.review_sql.proofs.versions.first_version_has_no_parents.Goals as goal

pub returns : goal.returns
returns c = no_parents
