use Rattle.std.proofs.Common.{◌≡◌, ◌∙◌, List, None, ap, cond}
use Rattle.review_table.specs.Rows.{row_in, rows_of}
use Rattle.review_memory_rows.specs.{Answers.answer_cmp, Answers.is_among, declared.answer_keys.AnswerKey.AnswerKey}
use Rattle.review_memory.proofs.Lower.{all_committed, sound_beside, on_err}
use Rattle.review_memory.specs.Desk.{desk_of, tables_of}
use Rattle.review_memory.proofs.tables.MemoryTables.commit.Goals as goal

pub returns-clause-sound : goal.returns-clause-sound
returns-clause-sound c = sound_beside c.commit_beside.new.self c.give_up.new.self _ c.give_up.ensures.rest c.give_up.ensures.filled c.commit_beside.ensures.sound

pub returns-clause-done : goal.returns-clause-done
returns-clause-done c =
    all_committed c.args.delta c.args.kept c.in-Ok.lower.items c.args.self.now c.commit_beside.new.self c.give_up.new.self c.in-Ok.ensures c.in_ok-commit_beside.ensures.done c.give_up.ensures.rest
    (λ q. c.give_up.ensures.answers q ∙ ap (λ (ks : List AnswerKey). cond (is_among ks q) None (row_in answer_cmp (rows_of c.commit_beside.new.self.answers) q)) c.deref.ensures.value)

pub returns-in_err-commit_beside-clause-same : goal.returns-in_err-commit_beside-clause-same
returns-in_err-commit_beside-clause-same c =
    on_err c.from_residual.result (tables_of (desk_of c.commit_beside.new.self) ≡ tables_of (desk_of c.args.self.now)) c.in_err-commit_beside.ensures.same
