use Rattle.std.proofs.Common.{◌≡◌, ◌≤◌, ◌+◌, ◌∙◌, ◌++◌, ap, length, length-append, arith, refl, subst, sym, nat_cmp, nat_le, true, ℕ}
use Rattle.review_machine_rows.proofs.Common.{NamesOnce, most_comments, most_patches, nat_tests, vote_cmp, within_parts}
use Rattle.review_machine_change_rows.proofs.Edited.{added, noted, turned, numbers_once}
use Rattle.review_machine_change_rows.specs.Edits.{puts_after}
use Rattle.review_machine_change_rows.proofs.edits.edit_of.Goals as goal

pub more_patches-requires : goal.more_patches-requires
more_patches-requires c =
    let d = c.args.edited in
    let old = d.rows.now.patches in
    let size : c.len.result ≡ length old.items = c.len.ensures ∙ old.ok.0 in
    let both : length (old.items ++ d.patches.items) ≡ length old.items + length d.patches.items = length-append old.items d.patches.items in
    let most = (within_parts most_patches (length (old.items ++ d.patches.items)) c.requires.sound.patches).1 in
    omega (arith, size, both, most)

pub more_comments-requires : goal.more_comments-requires
more_comments-requires c =
    let d = c.args.edited in
    let old = d.rows.now.comments in
    let size : c.len-2.result ≡ length old.items = c.len-2.ensures ∙ old.ok.0 in
    let both : length (old.items ++ d.comments.items) ≡ length old.items + length d.comments.items = length-append old.items d.comments.items in
    let most = below (length (old.items ++ d.comments.items)) c.requires.sound.comments in
    omega (arith, size, both, most)
  where
    below : (n : ℕ) → nat_le n most_comments ≡ true → n ≤ most_comments
    below n is = grind (arith, nat_tests)

pub returns-clause-becomes : goal.returns-clause-becomes
returns-clause-becomes c =
    let d = c.args.edited in
    turned (record { change = c.args.change; header = d.header; patches = c.in_ok-patches.patches; votes = c.in_ok-marks.marks.votes; roles = c.in_ok-marks.marks.roles; comments = c.in_ok-comments.comments; attention = c.in_ok-marks.marks.attention }) d (record {
      header = refl;
      patches = added c.in_ok-patches.patches.items c.len.result d.rows.now.patches.items d.patches.items (c.len.ensures ∙ d.rows.now.patches.ok.0) c.in_ok-patches.ensures;
      votes = noted vote_cmp c.in_ok-marks.marks.votes.items d.votes d.rows.now.votes c.in_ok-marks.ensures.votes d.over.votes_are;
      roles = noted nat_cmp c.in_ok-marks.marks.roles.items d.roles d.rows.now.roles c.in_ok-marks.ensures.roles d.over.roles_are;
      comments = added c.in_ok-comments.comments.items c.len-2.result d.rows.now.comments.items d.comments.items (c.len-2.ensures ∙ d.rows.now.comments.ok.0) c.in_ok-comments.ensures;
      attention = noted nat_cmp c.in_ok-marks.marks.attention.items d.attention d.rows.now.attention c.in_ok-marks.ensures.attention d.over.attention_is;
    })

pub returns-clause-noted : goal.returns-clause-noted
returns-clause-noted c =
    let d = c.args.edited in record {
      patches = c.in_ok-patches.ensures ∙ ap (λ n. puts_after n d.patches.items) (c.len.ensures ∙ d.rows.now.patches.ok.0);
      votes = c.in_ok-marks.ensures.votes;
      roles = c.in_ok-marks.ensures.roles;
      comments = c.in_ok-comments.ensures ∙ ap (λ n. puts_after n d.comments.items) (c.len-2.ensures ∙ d.rows.now.comments.ok.0);
      attention = c.in_ok-marks.ensures.attention;
    }

pub returns-clause-once : goal.returns-clause-once
returns-clause-once c = record {
  patches = subst (NamesOnce nat_cmp) (sym c.in_ok-patches.ensures) (numbers_once c.len.result c.args.edited.patches.items);
  votes = c.in_ok-marks.ensures.votes_once;
  roles = c.in_ok-marks.ensures.roles_once;
  comments = subst (NamesOnce nat_cmp) (sym c.in_ok-comments.ensures) (numbers_once c.len-2.result c.args.edited.comments.items);
  attention = c.in_ok-marks.ensures.attention_once;
}
