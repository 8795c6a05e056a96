use Rattle.std.proofs.Common.{true, sym, subst, ◌≡◌, ℕ, ◌==◌, ◌&&◌, ◌||◌, ◌++◌, not, ◌∙◌, ap, length, map, None}
use Rattle.std.specs.{List.list_any, Prelude.if◌then◌else◌, Prelude.unwrap_or, Prelude.is_some}
use Rattle.review_names.specs.Forms.{most_patches, is_within}
use Rattle.review_words.specs.declared.command.ChangeCommand.TheVariants.{Review}
use Rattle.review_core_rules.specs.Change.{last_uploader, reviewed, given_or, stored_as, said, new_comments, posts, kept_or, why_replied, why_commented, writer_role, is_open, no_copying}
use Rattle.review_core_rules.specs.{EditedRows.edited_account, Seen.seen, Seen.of_account}
use Rattle.review_core_tables.specs.declared.attention.Who.{Who}
use Rattle.review_core.proofs.file.ChangeFile.add_review.Goals as goal

pub reviewed_patch-patch-requires : goal.reviewed_patch-patch-requires
reviewed_patch-patch-requires c = subst (λ xs. is_within most_patches (length xs) ≡ true) (sym c.deref-2.ensures.value) c.args.self.now.sound.patches

pub returns : goal.returns
returns c =
    let rows = c.args.self.now.rows.now in
    let r = c.args.review.now in
    let caller = c.args.caller in
    let same = c.requires.same in
    let n : c.reviewed_patch-patch.result ≡ reviewed r (seen rows) = c.reviewed_patch-patch.ensures ∙ ap (λ ps. unwrap_or r.patch (length ps)) c.deref-2.ensures.value in
    let new : c.in_ok-new.new.items ≡ new_comments r caller c.args.request (seen rows) =
    c.in_ok-new.ensures ∙ (λ i. map (stored_as (c.deref-3.ensures.value i) (n i) caller c.args.request) (said r)) in
    let stored : c.in_ok-stored.stored.items ≡ posts rows.comments.items = c.in_ok-stored.ensures ∙ ap posts c.deref-4.ensures.value in
    let whole : Who = record { owner = rows.header.owner; uploader = last_uploader rows.header.owner rows.patches.items; caller = caller; wip = rows.header.wip } in
    let who : c.who_for-who.result ≡ whole = c.who_for-who.ensures ∙ (λ i. record whole { uploader = last_uploader rows.header.owner (c.deref.ensures.value i) }) in
    let role : (u : ℕ) → edited_account c.review_roles.new.roles u ≡ (if caller == u then writer_role r rows.header.owner caller (of_account rows.roles caller) else of_account rows.roles u) =
    λ u. c.in_ok-review_roles.ensures.roles u ∙ (λ j. if caller == u then writer_role r (who j).owner caller ((same j).role caller) else (same j).role u) in record {
      over = ap (λ b. b.now) c.requires.over;
      made = λ i. record (same i) {
        vote = λ m l a. (c.in_ok-give.ensures.votes m l a ∙ (λ j. if (n j == m) && (caller == a) then given_or (c.as_slice-labels.ensures.given j) l ((same j).vote m l a) else (same j).vote m l a)) i;
        role = λ u. role u i;
        comments = (c.requires.over i).now.comments.items ++ new i;
        attention = λ u. (c.in_ok-call_reviewed.ensures.called u ∙ (λ j.
            kept_or (if ((who j).caller == u) && (not (is_open rows.header.state) || not (who j).wip) then None else (same j).attention u)
            (if (ap (λ xs. list_any (λ x. x == u) xs) c.deref-5.ensures.value ∙ (c.in_ok-accounts.ensures u ∙ (λ k. (((who k).owner == u) || (((who k).uploader == u) || is_some (role u k))) && (not ((who k).caller == u) && not (who k).wip)))) j
            then (if is_open rows.header.state
            then why_replied ((c.deref-6.ensures.value ∙ stored) j) (c.as_slice-given.ensures.comments j) (who j).caller (who j).owner (who j).uploader u
            else why_commented ((c.deref-7.ensures.value ∙ new) j) (who j).caller (who j).owner u)
            else None)
            c.args.request)) i;
      };
      sound = c.stays_sound.ensures no_copying (Review c.args.review.now) c.args.caller c.args.request (seen rows) c.args.self.now.sound c.requires.fitting;
    }
