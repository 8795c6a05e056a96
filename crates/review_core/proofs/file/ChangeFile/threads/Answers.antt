use Rattle.std.proofs.Common.{◌≡◌, ◌∙◌, true, length, sym, ap, subst, nat_le}
use Rattle.{review_names.specs.Forms.most_comments, review_core_rules.specs.Threads.threads}
use Rattle.review_core.proofs.file.ChangeFile.threads.Goals as goal

pub threads-requires : goal.threads-requires
threads-requires c = subst (λ xs. nat_le (length xs) most_comments ≡ true) (sym c.deref.ensures.value) c.args.self.now.sound.comments

pub returns : goal.returns
returns c = c.in_ok-threads.ensures ∙ ap threads c.deref.ensures.value
