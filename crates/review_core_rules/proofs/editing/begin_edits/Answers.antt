use Rattle.std.proofs.Common.{◌∙◌, ◌++◌, ap, append-nil}
use Rattle.review_core_rules.specs.Seen.{value_of}
use Rattle.review_core_rules.proofs.editing.begin_edits.Goals as goal

pub returns-clause-same : goal.returns-clause-same
returns-clause-same c =
    let rows = c.args.rows.now in
    let patches = ap (λ xs. rows.patches.items ++ xs) c.new.ensures.items ∙ append-nil rows.patches.items in
    let comments = ap (λ xs. rows.comments.items ++ xs) c.new-4.ensures.items ∙ append-nil rows.comments.items in
    λ i. record {
      project = c.in_ok-copy.ensures i;
      branch = c.in_ok-copy-2.ensures i;
      subject = c.in_ok-copy-3.ensures i;
      owner = rows.header.owner;
      state = c.args.state;
      wip = rows.header.wip;
      place = rows.header.place;
      updated = c.args.request;
      patches = patches i;
      vote = λ n l a. value_of (c.new-2.ensures.rows (record { patch = n; label = l; account = a }) i);
      role = λ u. c.new-3.ensures.rows u i;
      comments = comments i;
      attention = λ u. c.new-5.ensures.rows u i;
    }
