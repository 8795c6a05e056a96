use Rattle.{std.proofs.Common.subst, std.proofs.Common.sym, review_memory_rows.specs.Kept.IsFull}
use Rattle.review_memory_rows.proofs.kept.KeptChanges.reserve.Goals as goal

pub returns-in-Ok-clause-spare : goal.returns-in-Ok-clause-spare
returns-in-Ok-clause-spare c = λ full. c.reserve-reserved.ensures.spare (subst IsFull (sym c.self.view_is) full)

pub returns-in-Err-clause-full : goal.returns-in-Err-clause-full
returns-in-Err-clause-full c = λ full. c.release.ensures.full (c.reserve-reserved.ensures.spare (subst IsFull (sym c.self.view_is) full))
