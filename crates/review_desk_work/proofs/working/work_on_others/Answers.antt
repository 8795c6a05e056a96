use Rattle.std.proofs.Common.{refl, Err, ap, inl, inr}
use Rattle.review_desk_work.proofs.working.work_on_others.Goals as goal

pub returns-in-Ok-clause-done : goal.returns-in-Ok-clause-done
returns-in-Ok-clause-done g c = inl (record {
  opened = c.in-Ok.shelf;
  left = c.work_on_shelf.ensures.done.0;
  is_opened = c.in-Ok.ensures.opened;
  there = c.in-Ok.ensures.there;
  goes_on = c.in-Ok.ensures.goes_on;
  did = c.work_on_shelf.ensures.done.1;
  closed = c.work_on_shelf.ensures.done.2;
})

pub returns-in-Err-clause-done : goal.returns-in-Err-clause-done
returns-in-Err-clause-done g c = inr (record {
  fault = c.in-Err.fault;
  ends = ap Err c.from.ensures;
  lacking = λ same. let none = c.in-Err.ensures.ours same in cc;
  stays = c.in-Err.ensures.refused;
  cause = c.in-Err.ensures.cause;
  left = c.in-Err.ensures.left;
  shut = elim c.in-Err.ensures.shut [ inl is ↦ (let none = c.in-Err.ensures.ours is in cc) | inr tells ↦ tells ];
  same = refl;
})
