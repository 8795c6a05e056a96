use Rattle.std.proofs.Common.{true, sym, subst, ◌≡◌, ◌==◌, ◌&&◌, ◌||◌, not, ◌∙◌, ap, length, pos, None, refl}
use Rattle.std.specs.{Cmp.unsigned_tied, Prelude.if◌then◌else◌}
use Rattle.review_names.specs.Forms.{most_patches, is_within}
use Rattle.review_words.specs.declared.command.ChangeCommand.TheVariants.{RemoveReviewer}
use Rattle.review_core_rules.specs.Change.{last_uploader, eligible, settled, no_copying}
use Rattle.review_core_rules.specs.Seen.{seen, of_account}
use Rattle.review_core_tables.{proofs.Accounts.kept_nothing, specs.declared.attention.Who.Who}
use Rattle.review_core.proofs.file.ChangeFile.remove_reviewer.Goals as goal

pub current_patch-patch-requires : goal.current_patch-patch-requires
current_patch-patch-requires c = subst (λ xs. is_within most_patches (length xs) ≡ true) (sym c.deref-2.ensures.value) c.args.self.now.sound.patches

pub returns : goal.returns
returns c =
    let rows = c.args.self.now.rows.now in
    let owner = rows.header.owner in
    let u0 = c.args.account in
    let caller = c.args.caller in
    let same = c.requires.same in
    let whole : Who = record { owner = owner; uploader = last_uploader owner rows.patches.items; caller = caller; wip = rows.header.wip } in
    let who : c.who_for-who.result ≡ whole = c.who_for-who.ensures ∙ (λ i. record whole { uploader = last_uploader owner (c.deref.ensures.value i) }) in
    let n : c.current_patch-patch.result ≡ length rows.patches.items = c.current_patch-patch.ensures ∙ ap length c.deref-2.ensures.value in
    let gone : c.is_other-is_gone.result ≡ not ((owner == u0) || (last_uploader owner rows.patches.items == u0)) =
    c.is_other-is_gone.ensures ∙ (λ i. not (((who i).owner == u0) || ((who i).uploader == u0))) in record {
      over = ap (λ b. b.now) c.requires.over;
      made = λ i. record (same i) {
        vote = λ m l a. (c.in_ok-drop_votes.ensures.votes m l a ∙ (λ j. if (n j == m) && (u0 == a) then pos 0 else (same j).vote m l a)) i;
        role = λ u. (c.in_ok-set.ensures.rows u ∙ (λ j. if unsigned_tied u0 u j then None else (same j).role u)) i;
        attention = λ u. (c.in_ok-drop_called.ensures.called u ∙ ((λ j. if (u0 == u) && gone j then None else (same j).attention u)
            ∙ kept_nothing (eligible (settled no_copying (RemoveReviewer u0) caller c.args.request (seen rows)) u && (not (caller == u) && not rows.header.wip))
            (if (u0 == u) && not ((owner == u0) || (last_uploader owner rows.patches.items == u0)) then None else of_account rows.attention u) c.args.request)) i;
      };
      sound = c.stays_sound.ensures no_copying (RemoveReviewer c.args.account) c.args.caller c.args.request (seen rows) c.args.self.now.sound refl;
    }
