use Rattle.std.proofs.{Common.◌∙◌, Common.None, Common.ap, Common.cond, Common.sym, Common.take, lemmas.List.take_all}
use Rattle.{std.specs.BTreeMap.is_at, review_table.specs.Rows.row_in, review_table.specs.Rows.rows_of}
use Rattle.review_memory_rows.proofs.Dropped.{among_more, drop_more}
use Rattle.review_memory_rows.specs.Answers.{answer_cmp, is_among}
use Rattle.review_memory_rows.proofs.lower.remove_keys.Goals as goal

pub loop-key-preserved : goal.loop-key-preserved
loop-key-preserved c =
    let keys = c.args.keys.now in
    let i = c.loop-key.key-index in
    let key = c.key-item.result in
    record {
      rows = λ q.
          drop_more (is_among (take i keys) q) (is_at (answer_cmp key) q) (row_in answer_cmp (rows_of c.args.answers.now) q) (row_in answer_cmp (rows_of c.loop-key.answers) q) (row_in answer_cmp (rows_of c.remove.new.self) q)
          (c.loop-key.invariant.rows q) (c.remove.ensures.rows q)
          ∙ ap (λ b. cond b None (row_in answer_cmp (rows_of c.args.answers.now) q)) (sym (among_more keys i key q c.loop-key-test.true c.key-item.is));
      filled = λ full. c.remove.ensures.mended (λ q empty. absurd (c.loop-key.invariant.filled full q empty));
    }

pub returns-clause-rows : goal.returns-clause-rows
returns-clause-rows c = λ q.
    c.loop-key.invariant.rows q
    ∙ ap (λ ks. cond (is_among ks q) None (row_in answer_cmp (rows_of c.args.answers.now) q)) (take_all c.loop-key.key-index c.args.keys.now c.loop-key-test.false)
