use Rattle.std.proofs.Common.{◌≡◌, None, cond, take}
use Rattle.review_table.specs.Rows.{HasNoEmptyPlace, row_in, rows_of}
use Rattle.review_memory_rows.specs.Answers.{answer_cmp, is_among}
use Rattle.review_memory_rows.proofs.lower.remove_keys.Given as goal

abbrev pub invariant-loop-key : goal.invariant-loop-key
invariant-loop-key l = record {
  rows : (q : _) → row_in answer_cmp (rows_of l.answers) q ≡ cond (is_among (take l.key-index l.keys) q) None (row_in answer_cmp (rows_of l.fn.answers) q);
  filled : HasNoEmptyPlace answer_cmp l.fn.answers → HasNoEmptyPlace answer_cmp l.answers;
}
