use Rattle.std.proofs.Common.{◌≡◌, ℕ, ◌==◌, ◌&&◌, ◌||◌, ◌∙◌, ap, not, None, Some, refl}
use Rattle.std.specs.{Cmp.unsigned_tied, List.list_any, Prelude.if◌then◌else◌, Prelude.is_some}
use Rattle.review_words.specs.declared.command.ChangeCommand.TheVariants.{AddReviewer}
use Rattle.review_core_rules.specs.{Change.kept_or, Change.last_uploader, Change.no_copying, EditedRows.edited_account}
use Rattle.review_core_rules.specs.{Seen.of_account, Seen.seen, declared.rows.Why.TheVariants.Added}
use Rattle.review_core_tables.specs.declared.attention.Who.{Who}
use Rattle.review_core.proofs.file.ChangeFile.add_reviewer.Goals as goal

pub returns : goal.returns
returns c =
    let rows = c.args.self.now.rows.now in
    let u0 = c.args.account in
    let same = c.requires.same in
    let whole : Who = record { owner = rows.header.owner; uploader = last_uploader rows.header.owner rows.patches.items; caller = c.args.caller; wip = rows.header.wip } in
    let who : c.who_for-who.result ≡ whole = c.who_for-who.ensures ∙ (λ i. record whole { uploader = last_uploader rows.header.owner (c.deref.ensures.value i) }) in
    let role : (u : ℕ) → edited_account c.set.new.self u ≡ (if u0 == u then Some c.args.role else of_account rows.roles u) =
    λ u. c.in_ok-set.ensures.rows u ∙ (λ j. if unsigned_tied u0 u j then Some c.args.role else (same j).role u) in record {
      over = ap (λ b. b.now) c.requires.over;
      made = λ i. record (same i) {
        role = λ u. role u i;
        attention = λ u. (c.in_ok-call_all.ensures.called u ∙ (λ j.
            kept_or ((same j).attention u)
            (if (ap (λ xs. list_any (λ x. x == u) xs) c.deref-2.ensures.value ∙ (c.in_ok-accounts.ensures u ∙ (λ k. (((who k).owner == u) || (((who k).uploader == u) || is_some (role u k))) && (not ((who k).caller == u) && not (who k).wip)))) j
            then (if (u0 == u) && c.calls_reviewer.ensures j then Some Added else None)
            else None)
            c.args.request)) i;
      };
      sound = c.stays_sound.ensures no_copying (AddReviewer c.args.account c.args.role) c.args.caller c.args.request (seen rows) c.args.self.now.sound refl;
    }
