use Rattle.std.proofs.Common.{refl, Err, ap, inl, inr}
use Rattle.review_desk_work.proofs.working.migrate_others.Goals as goal

pub returns-in-Ok-clause-migrated : goal.returns-in-Ok-clause-migrated
returns-in-Ok-clause-migrated g c = inl (refl, (c.in-Ok.shelf, c.in-Ok.ensures.migrated, c.close.ensures.closed), c.warn.ensures)

pub returns-in-Err-clause-migrated : goal.returns-in-Err-clause-migrated
returns-in-Err-clause-migrated g c = inr (
  record {
    fault = c.in-Err.fault;
    ends = ap Err c.from.ensures;
    lacking = λ same. let none = c.in-Err.ensures.ours same in cc;
    unmade = c.in-Err.ensures.refused;
    cause = c.in-Err.ensures.cause;
    left = c.in-Err.ensures.left;
    shut = elim c.in-Err.ensures.shut [ inl is ↦ (let none = c.in-Err.ensures.ours is in cc) | inr tells ↦ tells ];
  },
  refl,
)
