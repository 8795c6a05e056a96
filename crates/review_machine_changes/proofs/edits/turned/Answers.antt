use Rattle.std.proofs.Common.{[], ◌∷◌}
use Rattle.review_machine_rows.proofs.Common.{IfOk-weaker, NamesEachOnce, NamesRowsOnce, after_edits, seen}
use Rattle.{review_machine_accounts.specs.Decisions.EditsChanges, review_machine_changes.specs.Deltas.MakesChange}
use Rattle.review_machine_changes.proofs.edits.turned.Goals as goal

pub returns-clause-made : goal.returns-clause-made
returns-clause-made c =
    let a = c.args in
    IfOk-weaker c.delta_of.result (EditsChanges (c.in_ok-edit.edit ∷ [])) (MakesChange a.change (seen a.edited.rows.now) (after_edits a.edited))
    (λ delta edits. record { edit = c.in_ok-edit.edit; edits = edits; named = c.in_ok-edit.ensures.change; becomes = c.in_ok-edit.ensures.becomes })
    c.delta_of.ensures.edits

pub returns-clause-once : goal.returns-clause-once
returns-clause-once c = IfOk-weaker c.delta_of.result (λ delta. NamesRowsOnce c.in_ok-edit.edit → NamesEachOnce delta) NamesEachOnce (λ delta once. once c.in_ok-edit.ensures.once) c.delta_of.ensures.once
