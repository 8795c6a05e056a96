use Rattle.std.proofs.Common.{◌≡◌, ◌∙◌, ◌+◌, ℕ, Bor, ap, subst, length}
use Rattle.review_words.specs.declared.command.ChangeCommand.TheVariants.{Upload as UploadOf}
use Rattle.review_machine_rows.proofs.Common.{Change, ChangeRows, Done, Patch, after, seen}
use Rattle.review_machine_changes.proofs.Made.{draft_sound, made_of}
use Rattle.review_machine_changes.specs.Deltas.{MakesChange, setting_in}
use Rattle.review_machine_changes.proofs.uploading.uploaded.Goals as goal

pub turned-requires : goal.turned-requires
turned-requires c = draft_sound c.in_ok-edited.ensures.change

pub returns-clause-made : goal.returns-clause-made
returns-clause-made c =
    let a = c.args in
    let rows = a.file.now.rows.now in
    let new : ℕ → Change = λ n. after (setting_in a.project.now a.rows.now) (UploadOf a.patch.now) a.caller n (seen rows) in
    let count : c.len.result ≡ length rows.patches.items = c.len.ensures ∙ c.rows.result.now.patches.ok.0 ∙ ap (λ (r : Bor ChangeRows). length r.now.patches.items) c.rows.ensures.same in
    record {
      made = subst (λ n. MakesChange a.change (seen rows) (new n) c.in_ok-delta.delta) c.next_request-request.ensures (made_of a.change c.in_ok-delta.delta c.in_ok-edited.ensures.change c.in_ok-delta.ensures.made);
      copied = c.in_ok-edited.counts.copied;
      outdated = c.in_ok-edited.counts.outdated;
      many_copied = c.in_ok-edited.ensures.copied;
      many_outdated = c.in_ok-edited.ensures.outdated;
      reply_is = ap Done (c.patch_answer-answer.ensures.value ∙ ap (λ n. Patch a.change n c.in_ok-edited.counts.copied c.in_ok-edited.counts.outdated) (c.next_patch-next.ensures ∙ ap (λ n. n + 1) count));
    }
