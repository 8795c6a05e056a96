use Rattle.{std.proofs.Common.refl, review_memory_rows.proofs.Turned.turned, review_memory_rows.specs.Kept.renewed}
use Rattle.review_memory_rows.proofs.edits.edited.Goals as goal

pub returns : goal.returns
returns c =
    let a = c.args in
    let old = a.old.now in
    turned a.edit old (renewed old (record { header = a.edit.header; patches = c.in_ok-patches.patches; votes = c.in_ok-marks.marks.votes; roles = c.in_ok-marks.marks.roles; comments = c.in_ok-comments.comments; attention = c.in_ok-marks.marks.attention })) (record {
      header = refl;
      patches = c.in_ok-patches.ensures;
      votes = c.in_ok-marks.ensures.votes;
      roles = c.in_ok-marks.ensures.roles;
      comments = c.in_ok-comments.ensures;
      attention = c.in_ok-marks.ensures.attention;
    })
