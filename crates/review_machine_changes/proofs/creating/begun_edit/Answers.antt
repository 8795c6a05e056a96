use Rattle.std.proofs.Common.{◌≡◌, ◌∙◌, IfOk, None, ap, arith, length, subst}
use Rattle.review_machine_rows.proofs.Common.{Change, Part, after_row_edit, begun, part_change, part_row}
use Rattle.review_machine_changes.proofs.creating.begun_edit.Goals as goal

pub returns-clause-becomes : goal.returns-clause-becomes
returns-clause-becomes c =
    let a = c.args in
    subst (λ (x : Change). IfOk c.edit_of_new.result (λ e. (part : Part) → after_row_edit (part_change e part) None ≡ part_row x part))
    (c.in_ok-rows.ensures.change ∙ ap (λ n. begun n a.caller a.request) c.in_ok-new.ensures) c.edit_of_new.ensures.becomes

pub edit_of_new-requires-clause-patches : goal.edit_of_new-requires-clause-patches
edit_of_new-requires-clause-patches c =
    let one : length c.in_ok-rows.rows.patches.items ≡ 1 = ap (λ (x : Change). length x.patches) c.in_ok-rows.ensures.change in
    omega (arith, one)
