use Rattle.review_machine_change_rows.proofs.Shown.{comments_fault, passed, patches_fault, shown}
use Rattle.review_machine_change_rows.specs.Tables.{HaveFault}
use Rattle.review_machine_change_rows.proofs.loading.ordered_copy.Goals as goal

pub returns-in_err-patches-clause-fault : goal.returns-in_err-patches-clause-fault
returns-in_err-patches-clause-fault c =
    passed (HaveFault c.args.tables.now) c.in_err-patches.field-0.0 c.from_residual.result c.from_residual.ensures (patches_fault c.args.tables.now c.in_err-patches.field-0.0 c.in_err-patches.ensures.fault)

pub returns-in_err-comments-clause-fault : goal.returns-in_err-comments-clause-fault
returns-in_err-comments-clause-fault c =
    passed (HaveFault c.args.tables.now) c.in_err-comments.field-0.0 c.from_residual-in_err-comments.result c.from_residual-in_err-comments.ensures
    (comments_fault c.args.tables.now c.in_err-comments.field-0.0 c.in_err-comments.ensures.fault)

pub returns-clause-shown : goal.returns-clause-shown
returns-clause-shown c =
    let m = c.in_ok-marks.marks in
    shown c.args.tables.now (record { header = c.in_ok-header.header; patches = c.in_ok-patches.patches; votes = m.votes; roles = m.roles; comments = c.in_ok-comments.comments; attention = m.attention }) (record {
      header = c.in_ok-header.ensures;
      patches = c.in_ok-patches.ensures.rows;
      votes = c.in_ok-marks.ensures.votes;
      roles = c.in_ok-marks.ensures.roles;
      comments = c.in_ok-comments.ensures.rows;
      attention = c.in_ok-marks.ensures.attention;
    })
