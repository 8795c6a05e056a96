use Rattle.std.proofs.Common.{◌≡◌, vec_len, nat_cmp}
use Rattle.review_table.specs.Rows.{row_in, rows_of, HasNoEmptyPlace}
use Rattle.review_memory_rows.specs.Kept.{renewed_at}
use Rattle.review_memory_rows.proofs.edits.renew_all.Given as goal

-- what is left makes of the changes what all of it makes of the first ones
abbrev pub invariant-loop-change : goal.invariant-loop-change
invariant-loop-change l = record {
  rows : (n : _) → renewed_at l.left.items n (row_in nat_cmp (rows_of l.kept) n) ≡ renewed_at l.fn.changes.items n (row_in nat_cmp (rows_of l.fn.kept) n);
  full : HasNoEmptyPlace nat_cmp l.fn.kept → HasNoEmptyPlace nat_cmp l.kept;
}

abbrev pub decreases-loop-change : goal.decreases-loop-change
decreases-loop-change l = vec_len l.left
