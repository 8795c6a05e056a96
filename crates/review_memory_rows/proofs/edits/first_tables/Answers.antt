use Rattle.std.proofs.Common.{◌≡◌, ◌∙◌, subst, sym}
use Rattle.{review_table.specs.Rows.after_row_edit, review_machine_rows.specs.Rows.part_change}
use Rattle.{review_machine_change_rows.specs.Tables.part_in, review_memory_rows.proofs.Turned.bare_before}
use Rattle.review_memory_rows.proofs.edits.first_tables.Goals as goal

pub returns : goal.returns
returns c =
    let edit = c.args.edit in
    let bare = c.in_ok-bare.bare in
    λ part. subst (λ t. part_in t part ≡ after_row_edit (part_change edit part) (part_in bare part)) (sym c.renewed.ensures) (c.in_ok-new.ensures part) ∙ bare_before edit bare (record {
      patches = c.in_ok-bare.ensures.patches;
      votes = c.in_ok-bare.ensures.votes;
      roles = c.in_ok-bare.ensures.roles;
      comments = c.in_ok-bare.ensures.comments;
      attention = c.in_ok-bare.ensures.attention;
    }) part
