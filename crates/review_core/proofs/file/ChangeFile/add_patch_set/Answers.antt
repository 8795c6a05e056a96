use Rattle.std.proofs.Common.{subst, true, ◌≡◌, ℕ, List, refl, ◌==◌, ◌&&◌, ◌||◌, ◌+◌, ◌++◌, ◌∷◌, [], not, ◌∙◌, ap, sym, length, pos, None, map, if◌then◌else◌, is_some, find, option_map}
use Rattle.std.specs.{Cmp.Lexicographic.pointwise, List.list_any}
use Rattle.review_names.specs.Forms.{is_within, most_patches}
use Rattle.review_table.specs.{Edited.edited_row, Rows.rows_of}
use Rattle.review_words.specs.declared.command.ChangeCommand.TheVariants.{Upload}
use Rattle.{review_expr_judging.specs.declared.facts.VoteFacts.VoteFacts, review_core_rules.proofs.Stays.within_next}
use Rattle.review_core_rules.specs.Change.{last_uploader, last_paths, kept_or, Setting, copying}
use Rattle.review_core_rules.specs.{Seen.vote_in, Seen.vote_cmp, Seen.of_account, Seen.seen, Votes.voted}
use Rattle.review_core_rules.specs.declared.rows.{PatchRow.PatchRow, Why.TheVariants.NotCopied}
use Rattle.review_core_tables.proofs.Copied.{votes_carried, lost_is, many_copied, many_lost}
use Rattle.review_core_tables.specs.Copies.{copies_by, group_list, has_lost, with_groups}
use Rattle.review_core_tables.specs.{Tables.put_in, declared.attention.Who.Who}
use Rattle.review_core.proofs.Fitting.{next_free}
use Rattle.review_core.proofs.file.ChangeFile.add_patch_set.Goals as goal

-- who sent the last patch set is who sent the one that was added
last_pushed : (before : ℕ) (ps : List PatchRow) (p : PatchRow) → last_uploader before (ps ++ p ∷ []) ≡ p.uploader
last_pushed before [] p = refl
last_pushed before (q ∷ ps) p = last_pushed q.uploader ps p

pub current_patch-now-requires : goal.current_patch-now-requires
current_patch-now-requires c = subst (λ xs. is_within most_patches (length xs) ≡ true) (sym c.deref.ensures.value) c.args.self.now.sound.patches

pub next_patch-next-requires : goal.next_patch-next-requires
next_patch-next-requires c =
    let ps = c.args.self.now.rows.now.patches.items in
    let n : c.current_patch-now.result ≡ length ps = c.current_patch-now.ensures ∙ ap length c.deref.ensures.value in
    subst (λ k. is_within most_patches (k + 1) ≡ true) (sym n) (within_next (length ps) most_patches c.requires.fitting)

pub returns : goal.returns
returns c =
    let rows = c.args.self.now.rows.now in
    let s : Setting = record { file = c.args.file.now; groups = group_list c.args.groups.now } in
    let owner = rows.header.owner in
    let caller = c.args.caller in
    let p = c.args.patch in
    let file = c.args.file.now in
    let ps = rows.patches.items in
    let n : c.current_patch-now.result ≡ length ps = c.current_patch-now.ensures ∙ ap length c.deref.ensures.value in
    let next : c.next_patch-next.result ≡ length ps + 1 = c.next_patch-next.ensures ∙ ap (λ k. k + 1) n in
    let asked : VoteFacts = record {
      value = pos 0;
      voter = caller;
      range = record { least = pos 0; greatest = pos 0 };
      kind = p.kind;
      uploader = caller;
      unchanged_files = pointwise (pointwise ◌==◌) (last_paths [] ps) p.paths;
      groups = group_list c.args.groups.now;
    } in
    let facts : with_groups c.upload_facts-facts.result c.args.groups.now ≡ asked = c.upload_facts-facts.ensures c.args.groups.now ∙ (λ i. record asked { unchanged_files = pointwise (pointwise ◌==◌) (last_paths [] (c.deref-3.ensures.value i)) p.paths }) in
    let F = copies_by file (with_groups c.upload_facts-facts.result c.args.groups.now) in
    let sorted = c.in_ok-parted.ensures.sorted in
    let parted = c.in_ok-parted.ensures.parted in
    let former : c.last_uploader-former.result ≡ last_uploader owner ps = c.last_uploader-former.ensures ∙ ap (last_uploader owner) c.deref-2.ensures.value in
    let row : PatchRow = record { commit = p.commit; parent = p.parent; kind = p.kind; uploader = caller; paths = p.paths } in
    let unedited = c.requires.unedited in
    let same = c.requires.same in
    let pushed = c.in_ok-push.ensures.items ∙ (λ i. unedited.patches i ++ c.sent_by.ensures i ∷ []) in
    let whole : Who = record { owner = owner; uploader = last_uploader owner (ps ++ row ∷ []); caller = caller; wip = rows.header.wip } in
    let told : Who = record { owner = owner; uploader = caller; caller = caller; wip = rows.header.wip } in
    let who : told ≡ whole = λ i. record whole { uploader = sym (last_pushed owner ps row) i } in
    record {
      change = record {
        over = ap (λ b. b.now) c.requires.over;
        made = λ i. record (same i) {
          patches = (c.requires.over i).now.patches.items ++ pushed i;
          vote = λ k l u. (votes_carried F c.current_patch-now.result c.next_patch-next.result rows.votes (edited_row vote_cmp c.put_all.new.votes) sorted (λ l2 u2. ap (λ x. vote_in rows.votes x l2 u2) next ∙ next_free (seen rows) c.args.self.now.sound l2 u2)
              (λ q. c.in_ok-put_all.ensures.votes q ∙ (λ j. put_in vote_cmp (parted.copied j) q (unedited.votes q j))) k l u
              ∙ (λ j. if next j == k then (if copies_by file (facts j) l u (vote_in rows.votes (n j) l u) then vote_in rows.votes (n j) l u else pos 0) else vote_in rows.votes k l u)) i;
          attention = λ u. (c.in_ok-call_all.ensures.called u ∙ (λ j.
              kept_or ((c.in_ok-drop_called.ensures.called u
              ∙ ((λ x. if (c.last_uploader-former.result == u) && not (c.is_eligible-is_gone.ensures x) then None else (same x).attention u)
              ∙ (λ x. if (former x == u) && not (((who x).owner == former x) || (((who x).uploader == former x) || is_some (of_account rows.roles (former x)))) then None else of_account rows.attention u))) j)
              (if (ap (λ xs. list_any (λ x. x == u) xs) c.deref-5.ensures.value ∙ (c.in_ok-accounts.ensures u ∙ (λ k. (((who k).owner == u) || (((who k).uploader == u) || is_some ((same k).role u))) && (not ((who k).caller == u) && not (who k).wip)))) j
              then option_map NotCopied (find
              (λ l. (ap (λ ks. has_lost ks u l) (c.deref-4.ensures.value ∙ parted.lost)
              ∙ (lost_is F c.current_patch-now.result l u (rows_of rows.votes) sorted
              ∙ (λ x. voted (vote_in rows.votes (n x) l u) && not (copies_by file (facts x) l u (vote_in rows.votes (n x) l u))))) j)
              (map (λ x. x.name) (c.labels.ensures j)))
              else None)
              c.args.request)) i;
        };
        sound = c.stays_sound.ensures (copying s (Upload p) caller (seen rows)) (Upload p) caller c.args.request (seen rows) c.args.self.now.sound c.requires.fitting;
      };
      copied =
          many_copied F c.current_patch-now.result c.next_patch-next.result rows.votes sorted _
          (λ l u i. voted (if copies_by file (facts i) l u (vote_in rows.votes (n i) l u) then vote_in rows.votes (n i) l u else pos 0)) _
          (ap length (sym parted.copied) ∙ sym (c.len.ensures ∙ c.in_ok-parted.parted.copied.ok.0));
      outdated =
          many_lost F c.current_patch-now.result rows.votes sorted _
          (λ l u i. voted (vote_in rows.votes (n i) l u) && not (copies_by file (facts i) l u (vote_in rows.votes (n i) l u))) _
          (ap length (sym parted.lost) ∙ sym (c.len-2.ensures ∙ c.in_ok-parted.parted.lost.ok.0));
    }
