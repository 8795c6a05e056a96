use Rattle.std.proofs.{Common.[], Common.subst, Common.sym, lemmas.List.append-nil, lemmas.List.drop_all}
use Rattle.review_machine_submits.specs.Submits.{AreJoinEdits}
use Rattle.review_machine_submits.proofs.joining.join_edits.Goals as goal

pub returns-clause-edits : goal.returns-clause-edits
returns-clause-edits c =
    let a = c.args in
    let none = drop_all c.loop-change.change-index a.joined.now c.loop-change-test.false in
    subst (AreJoinEdits a.rows.now a.request a.joined.now) (append-nil c.loop-change.edits.items)
    (c.loop-change.invariant.edits [] (subst (λ js. AreJoinEdits a.rows.now a.request js []) (sym none) tt))
