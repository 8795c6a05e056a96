use Rattle.std.proofs.Common.{rules, refl, Err, IsTrue, true, ap, inl, inr, subst, sym, ◌∙◌}
use Rattle.sqlite.specs.Held.{state}
use Rattle.review_sql.specs.{Migrated.IsNotMigrated, Migrated.IsUnfit, declared.faults.DeskFault.DeskFault}
use Rattle.review_desk_work.proofs.working.migrate.Goals as goal

pub returns-in-Ok-clause-migrated : goal.returns-in-Ok-clause-migrated
returns-in-Ok-clause-migrated g c = inl (inl (refl, (c.in-Ok.shelf, c.in-Ok.ensures.migrated, c.close.ensures.closed), refl))

pub returns-in-Err-clause-migrated : goal.returns-in-Err-clause-migrated
returns-in-Err-clause-migrated g c = inl (inr (
  record {
    fault = c.in-Err.fault;
    ends = ap Err c.from.ensures;
    lacking = λ same. search rules;
    unmade = c.in-Err.ensures.refused;
    cause = c.in-Err.ensures.cause;
    left = c.in-Err.ensures.left;
    shut = elim c.in-Err.ensures.shut [ inl is ↦ absurd (search rules) | inr tells ↦ tells ];
  },
  refl,
))

pub returns-in-Err-default-NotOurs-clause-migrated : goal.returns-in-Err-default-NotOurs-clause-migrated
returns-in-Err-default-NotOurs-clause-migrated g c =
    let it = c.in-Err-default-NotOurs in
    let cause = subst (λ (f : DeskFault). IsTrue (state g.S.Store it.conn).is_open → IsUnfit (state g.S.Store c.args.conn).now f) it.field-0-1-is it.ensures.cause in
    let left = subst (λ (f : DeskFault). IsNotMigrated true f (state g.S.Store c.args.conn) (state g.S.Store it.conn)) it.field-0-1-is it.ensures.refused in
    inr (it.conn, record { unmade = left; cause = cause; left = λ is_open left. elim (it.ensures.left is_open left) [ inl is ↦ (let e = sym it.field-0-1-is ∙ is in cc) | inr is ↦ (let e = sym it.field-0-1-is ∙ is in cc) ] }, c.migrate_others.ensures.migrated)
