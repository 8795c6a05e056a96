use Rattle.std.proofs.Common.{◌≡◌, ◌∙◌, ◌&&◌, ap, cond, subst, true, Some}
use Rattle.review_table.specs.Rows.{has_place, row_in, rows_of, HasEmptyOnly}
use Rattle.{review_machine_rows.proofs.Common.is_at, review_memory_rows.specs.Answers.answer_cmp}
use Rattle.review_memory.proofs.tables.MemoryTables.store_beside.Goals as goal

pub returns-in-Ok-clause-stored : goal.returns-in-Ok-clause-stored
returns-in-Ok-clause-stored c = λ q.
    let key = c.args.answer.key in
    let row = Some c.args.answer.row in
    let place : has_place answer_cmp c.reserve.new.self key ≡ true = subst (λ k. has_place answer_cmp c.reserve.new.self k ≡ true) c.in_ok-copy.ensures c.in_ok-reserve.ensures.ok in
    c.restore.ensures.rows q
    ∙ (ap (λ b. cond (b && is_at (answer_cmp key) q) row (row_in answer_cmp (rows_of c.reserve.new.self) q)) place
    ∙ ap (λ rows. cond (is_at (answer_cmp key) q) row (row_in answer_cmp rows q)) c.reserve.ensures.same)

pub returns-in-Ok-clause-filled : goal.returns-in-Ok-clause-filled
returns-in-Ok-clause-filled c = λ full.
    c.restore.ensures.mended (subst (λ k. HasEmptyOnly answer_cmp (is_at (answer_cmp k)) c.reserve.new.self) c.in_ok-copy.ensures (c.reserve.ensures.only full))

pub returns-in-Err-clause-filled : goal.returns-in-Err-clause-filled
returns-in-Err-clause-filled c = λ full.
    c.release_one.ensures.mended (subst (λ k. HasEmptyOnly answer_cmp (is_at (answer_cmp k)) c.reserve.new.self) c.in_ok-copy.ensures (c.reserve.ensures.only full))
