use Rattle.std.proofs.Common.{rules, refl, Err, IsTrue, ap, inl, inr, subst, sym, ◌∙◌}
use Rattle.sqlite.specs.Held.{state}
use Rattle.review_sql.specs.{Opened.IsRefused, declared.faults.DeskFault.DeskFault}
use Rattle.review_desk_work.proofs.working.work.Goals as goal

pub returns-in-Ok-clause-done : goal.returns-in-Ok-clause-done
returns-in-Ok-clause-done g c = record {
  how = inl (record {
    opened = c.in-Ok.shelf;
    left = c.work_on_shelf.ensures.done.0;
    is_opened = c.in-Ok.ensures.opened;
    there = c.in-Ok.ensures.there;
    goes_on = c.in-Ok.ensures.goes_on;
    did = c.work_on_shelf.ensures.done.1;
    closed = c.work_on_shelf.ensures.done.2;
  });
}

pub returns-in-Err-clause-done : goal.returns-in-Err-clause-done
returns-in-Err-clause-done g c = record {
  how = inr (inl (record {
    fault = c.in-Err.fault;
    ends = ap Err c.from.ensures;
    lacking = λ same. search rules;
    stays = c.in-Err.ensures.refused;
    cause = c.in-Err.ensures.cause;
    left = c.in-Err.ensures.left;
    shut = elim c.in-Err.ensures.shut [ inl is ↦ absurd (search rules) | inr tells ↦ tells ];
    same = refl;
  }));
}

pub returns-in-Err-default-NotOurs-clause-done : goal.returns-in-Err-default-NotOurs-clause-done
returns-in-Err-default-NotOurs-clause-done g c =
    let it = c.in-Err-default-NotOurs in
    let cause = subst (λ (f : DeskFault). IsTrue (state g.S.Store it.conn).is_open → IsRefused (state g.S.Store c.args.conn) f) it.field-0-1-is it.ensures.cause in
    record { how = inr (inr (it.conn, record { stays = it.ensures.refused; cause = cause; left = λ is_open left. elim (it.ensures.left is_open left) [ inl is ↦ (let e = sym it.field-0-1-is ∙ is in cc) | inr is ↦ (let e = sym it.field-0-1-is ∙ is in cc) ] }, c.work_on_others.ensures.done)) }
