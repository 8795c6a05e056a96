use Rattle.std.proofs.Common.{◌≡◌, ◌∙◌, Some, ap, length, refl, subst, sym, option_map}
use Rattle.{review_core_rules.specs.Change.of_number, review_machine_submits.proofs.Loaded.last_sender}
use Rattle.review_machine_submits.proofs.showing.shown_change.Goals as goal

pub returns : goal.returns
returns c =
    let patch = c.last_patch-last.result.now in
    let last = subst (λ ps. of_number ps (length ps) ≡ Some patch) c.deref-2.ensures.value c.last_patch-last.ensures in
    record {
      change = refl;
      project = c.in_ok-project.ensures;
      branch = c.in_ok-branch.ensures;
      subject = c.in_ok-subject.ensures;
      owner = refl;
      state = refl;
      wip = refl;
      updated = refl;
      patch = c.current_patch-patch.ensures ∙ ap length c.deref.ensures.value;
      commit = ap (option_map (λ p. p.commit)) last ∙ ap Some (sym c.in_ok-commit.ensures);
      uploader = sym (last_sender c.args.rows.now.header.owner c.args.rows.now.patches.items patch last);
      reviewers = c.in_ok-reviewers.ensures;
      ccs = c.in_ok-ccs.ensures;
      votes = c.in_ok-votes.ensures;
    }
