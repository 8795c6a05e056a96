use Rattle.std.proofs.Common.{refl, subst}
use Rattle.review_core_rules.specs.{Change.after_plain, Seen.seen}
use Rattle.review_machine_changes.{proofs.Made.draft_sound, proofs.Made.made_of, specs.Deltas.MakesChange}
use Rattle.review_machine_changes.proofs.requests.plainly_done.Goals as goal

pub turned-requires : goal.turned-requires
turned-requires c = draft_sound c.in_ok-edited.ensures

pub returns-clause-made : goal.returns-clause-made
returns-clause-made c =
    let a = c.args in
    record {
      made = subst (λ n. MakesChange a.change (seen a.file.now.rows.now) (after_plain a.command.now a.caller n (seen a.file.now.rows.now)) c.in_ok-delta.delta) c.next_request.ensures
          (made_of a.change c.in_ok-delta.delta c.in_ok-edited.ensures c.in_ok-delta.ensures.made);
      reply_is = refl;
    }
