use Rattle.std.proofs.Common.{◌≡◌, ap, ◌==◌, ◌&&◌, ◌||◌, ◌∙◌, false, not, None, Some, refl}
use Rattle.std.specs.{List.list_any, Prelude.if◌then◌else◌, Prelude.is_some}
use Rattle.review_words.specs.declared.command.ChangeCommand.TheVariants.{SetReady}
use Rattle.review_core_rules.specs.Change.{is_reviewer, kept_or, last_uploader, no_copying}
use Rattle.review_core_rules.specs.{Seen.of_account, Seen.seen, declared.rows.Why.TheVariants.Ready}
use Rattle.review_core_tables.specs.declared.attention.Who.{Who}
use Rattle.review_core.proofs.file.ChangeFile.ready.Goals as goal

pub returns : goal.returns
returns c =
    let rows = c.args.self.now.rows.now in
    let same = c.in_ok-edited.ensures.same in
    let whole : Who = record { owner = rows.header.owner; uploader = last_uploader rows.header.owner rows.patches.items; caller = c.args.caller; wip = false } in
    let who : c.who_for-who.result ≡ whole = c.who_for-who.ensures ∙ (λ i. record whole { owner = (same i).owner; uploader = last_uploader (same i).owner (c.deref.ensures.value i) }) in record {
      over = ap (λ b. b.now) c.in_ok-edited.ensures.rows;
      made = λ i. record (same i) {
        wip = false;
        attention = λ u. (c.in_ok-call_all.ensures.called u ∙ (λ j.
            kept_or ((same j).attention u)
            (if (ap (λ xs. list_any (λ x. x == u) xs) c.deref-2.ensures.value ∙ (c.in_ok-accounts.ensures u ∙ (λ k. (((who k).owner == u) || (((who k).uploader == u) || is_some ((same k).role u))) && (not ((who k).caller == u) && not (who k).wip)))) j
            then (if is_reviewer (of_account rows.roles u) then Some Ready else None)
            else None)
            c.args.request)) i;
      };
      sound = c.stays_sound.ensures no_copying SetReady c.args.caller c.args.request (seen rows) c.args.self.now.sound refl;
    }
