use Rattle.std.proofs.Common.{IfOk, subst}
use Rattle.review_words.specs.declared.{changes.NewPatch.NewPatch, command.ChangeCommand.TheVariants.Upload as UploadOf}
use Rattle.review_core_rules.specs.Change.{after, carried, copying, is_lost}
use Rattle.review_core_rules.specs.{Counts.AreMany, EditedChanges.Makes, Seen.seen, Votes.voted}
use Rattle.review_machine_changes.specs.Deltas.{setting_in}
use Rattle.review_machine_changes.proofs.uploading.with_patch.Goals as goal

pub returns-clause-change : goal.returns-clause-change
returns-clause-change c =
    let a = c.args in
    subst (λ (p : NewPatch). IfOk c.with_patch_set.result (λ r. Makes a.file.now.rows.now (after (setting_in a.project.now a.rows.now) (UploadOf p) a.caller a.request (seen a.file.now.rows.now)) r.0))
    c.in_ok-patch.ensures c.with_patch_set.ensures.change

pub returns-clause-copied : goal.returns-clause-copied
returns-clause-copied c =
    let a = c.args in
    let s = setting_in a.project.now a.rows.now in
    let x = seen a.file.now.rows.now in
    subst (λ (p : NewPatch). IfOk c.with_patch_set.result (λ r. AreMany (λ l u. voted (carried (copying s (UploadOf p) a.caller x) x l u)) r.1.copied)) c.in_ok-patch.ensures c.with_patch_set.ensures.copied

pub returns-clause-outdated : goal.returns-clause-outdated
returns-clause-outdated c =
    let a = c.args in
    let s = setting_in a.project.now a.rows.now in
    let x = seen a.file.now.rows.now in
    subst (λ (p : NewPatch). IfOk c.with_patch_set.result (λ r. AreMany (λ l u. is_lost (copying s (UploadOf p) a.caller x) x u l) r.1.outdated)) c.in_ok-patch.ensures c.with_patch_set.ensures.outdated
