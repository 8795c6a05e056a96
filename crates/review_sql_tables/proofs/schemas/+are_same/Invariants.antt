use Rattle.std.proofs.Common.{length}
use Rattle.review_sql_tables.proofs.schemas.+are_same.Given as goal

abbrev pub decreases-are_same : goal.decreases-are_same
decreases-are_same g l = length l.all.now
