use Rattle.std.proofs.Common.{◌≡◌, IfOk, subst}
use Rattle.review_machine_rows.proofs.Common.{Change, ChangeRows, Part, after_row_edit, joined_at, part_change, part_row, seen}
use Rattle.review_machine_changes.proofs.Made.{draft_sound}
use Rattle.review_machine_submits.proofs.joining.edit_by.Goals as goal

pub edit_of-requires : goal.edit_of-requires
edit_of-requires c = record { sound = draft_sound c.in_ok-edited.ensures }

pub returns-clause-becomes : goal.returns-clause-becomes
returns-clause-becomes c =
    let a = c.args in
    let d = c.in_ok-edited.edited in
    let m = c.in_ok-edited.ensures in
    subst (λ (x : ChangeRows). IfOk c.edit_of.result (λ e. (part : Part) → after_row_edit (part_change e part) (part_row (seen x) part) ≡ part_row (joined_at a.place a.request (seen a.file.now.rows.now)) part)) m.over
    (subst (λ (y : Change). IfOk c.edit_of.result (λ e. (part : Part) → after_row_edit (part_change e part) (part_row (seen d.rows.now) part) ≡ part_row y part)) m.made c.edit_of.ensures.becomes)
