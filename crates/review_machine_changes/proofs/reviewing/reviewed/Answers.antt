use Rattle.std.proofs.Common.{◌≡◌, ◌≤◌, ◌∙◌, ap, sym, subst, length, arith, Bor}
use Rattle.review_words.specs.declared.command.ChangeCommand.TheVariants.{Review as ReviewOf}
use Rattle.review_machine_rows.proofs.Common.{AllByRecursion, ChangeRows, Done, IsCommentNumber, Reviewed, after_plain, most_comments, said, seen}
use Rattle.review_machine_changes.proofs.Made.{draft_sound, made_of}
use Rattle.review_machine_changes.proofs.Requested.{numbers_count, numbers_fit, room_for}
use Rattle.review_machine_changes.specs.{Deltas.MakesChange, inner.Done.next_numbers}
use Rattle.review_machine_changes.proofs.reviewing.reviewed.Goals as goal

pub turned-requires : goal.turned-requires
turned-requires c = draft_sound c.in_ok-edited.ensures

pub returns-clause-made : goal.returns-clause-made
returns-clause-made c =
    let a = c.args in
    let count : c.len-stored.result ≡ length a.file.now.rows.now.comments.items = c.len-stored.ensures ∙ c.rows.result.now.comments.ok.0 ∙ ap (λ (r : Bor ChangeRows). length r.now.comments.items) c.rows.ensures.same in
    record {
      made = subst (λ n. MakesChange a.change (seen a.file.now.rows.now) (after_plain (ReviewOf a.review.now) a.caller n (seen a.file.now.rows.now)) c.in_ok-delta.delta) c.next_request.ensures
          (made_of a.change c.in_ok-delta.delta c.in_ok-edited.ensures c.in_ok-delta.ensures.made);
      reply_is = λ i. Done (Reviewed ((c.in_ok-numbers.ensures ∙ (λ j. next_numbers (count j) (c.said_count.ensures j))) i));
    }

pub returns-clause-stored : goal.returns-clause-stored
returns-clause-stored c =
    let a = c.args in
    let count : c.len-stored.result ≡ length a.file.now.rows.now.comments.items = c.len-stored.ensures ∙ c.rows.result.now.comments.ok.0 ∙ ap (λ (r : Bor ChangeRows). length r.now.comments.items) c.rows.ensures.same in
    let is : c.in_ok-numbers.numbers ≡ next_numbers (length a.file.now.rows.now.comments.items) (length (said a.review.now)) = c.in_ok-numbers.ensures ∙ (λ j. next_numbers (count j) (c.said_count.ensures j)) in
    let room = room_for a.review.now (seen a.file.now.rows.now) c.requires in
    subst (λ l. (length l ≤ most_comments) × AllByRecursion IsCommentNumber l) (sym is)
    (subst (λ n. n ≤ most_comments) (sym (numbers_count (length a.file.now.rows.now.comments.items) (length (said a.review.now)))) (omega arith), numbers_fit (length a.file.now.rows.now.comments.items) (length (said a.review.now)) room)
