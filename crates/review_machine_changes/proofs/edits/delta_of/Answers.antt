use Rattle.std.proofs.Common.{◌∙◌, ◌++◌, ◌∷◌, [], ap}
use Rattle.review_machine_changes.proofs.Made.{one_edit_once}
use Rattle.review_machine_changes.proofs.edits.delta_of.Goals as goal

pub returns-clause-once : goal.returns-clause-once
returns-clause-once c = λ once.
    let d = c.nothing-delta.result in
    let empty = c.nothing-delta.ensures in
    one_edit_once c.args.edit (record { accounts = d.accounts; members = d.members; file = d.file; base = d.base; changes = c.push.new.self; least_epoch = d.least_epoch })
    (record {
      accounts = empty.accounts;
      members = empty.members;
      file = empty.file;
      base = empty.base;
      changes = c.in_ok-push.ensures.items ∙ ap (λ es. es ++ c.args.edit ∷ []) empty.changes;
      epoch = empty.epoch;
    })
    once
