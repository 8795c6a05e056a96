use Rattle.std.proofs.Common.{◌≡◌, ◌∙◌, ap, subst, sym, option_copied, option_map}
use Rattle.review_machine_rows.proofs.Common.{Change, Part, after_row_edit, joined_at, part_change, part_row, seen}
use Rattle.review_machine_submits.proofs.joining.join_edit.Goals as goal

pub returns-clause-edit : goal.returns-clause-edit
returns-clause-edit c =
    let a = c.args in
    record {
      of = seen c.in-Some.found.now;
      there = sym c.change.ensures ∙ ap (λ o. option_map (λ r. seen r) (option_copied o)) c.in-Some.is;
      named = c.in_ok-edit.ensures.change;
      becomes = subst (λ (x : Change). (part : Part) → after_row_edit (part_change c.in_ok-edit.edit part) (part_row x part) ≡ part_row (joined_at a.place a.request x) part) c.in_ok-file.ensures.file c.in_ok-edit.ensures.becomes;
    }
